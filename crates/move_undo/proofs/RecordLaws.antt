-- The records of moves as they are played, undone and played again.
use Rattle.std.proofs.Common.{◌≡◌, ℕ, ◌+◌, ◌≤◌, ◌<◌, get_or, length-take-le, List, [], ◌∷◌, ◌++◌, length, take, Some, refl, sym, ap, ◌∙◌, subst, arith}
use Rattle.std.specs.Prelude.{slice_get, None}
use Rattle.std.proofs.lemmas.Option.{slice_get_read}
use Rattle.std.proofs.lemmas.List.{length_push}
use Rattle.table_definitions.specs.Table.{Row}
use Rattle.move_definitions.specs.Moves.{Move, play_fault, PlaysAll}
use Rattle.move_definitions.specs.Undos.{Undo, former, CanTakeBack}
use Rattle.move_definitions.specs.Sessions.{IsTableOf}
use Rattle.move_laws.proofs.Played.{played_same}
use Rattle.move_laws.proofs.BackLaws.{takes_back}
use Rattle.move_undo.specs.Records.{first_table, IsPlayed, CanPlayAll, Recorded}

-- undoing all moves begins with the last one
pub first_more : (us : List Undo) (u : Undo) (table : List Row) → first_table (us ++ u ∷ []) table ≡ first_table us (former table u)
unfolding first_table
first_more [] u table = refl
first_more (v ∷ us) u table = ap (λ rows. former rows v) (first_more us u table)

pub first_none : (table : List Row) → first_table [] table ≡ table
unfolding first_table
first_none table = refl

pub recorded-none : (table : List Row) → Recorded table [] [] table
unfolding Recorded
recorded-none table = (refl, (table, refl))

-- there are at most as many records as moves
pub recorded-most : (rows : List Row) (moves : List Move) (us : List Undo) (table : List Row) → Recorded rows moves us table → length us ≤ length moves
unfolding Recorded
recorded-most rows moves [] table h = omega arith
recorded-most rows [] (u ∷ us) table h = absurd h
recorded-most rows (m ∷ ms) (u ∷ us) table h = let rest : length us ≤ length ms = recorded-most h.0 ms us table h.2 in omega arith

-- a move is played after those with a record
pub recorded-play : (rows : List Row) (moves : List Move) (us : List Undo) (table : List Row) (m : Move) (u : Undo) (new : List Row) → Recorded rows moves us table
    → IsPlayed table m u new → Recorded rows (take (length us) moves ++ m ∷ []) (us ++ u ∷ []) new
unfolding Recorded
recorded-play rows moves [] table m u new h p = (new, subst (λ (r : List Row). IsPlayed r m u new) (sym h.0) p, (refl, (new, refl)))
recorded-play rows [] (v ∷ us) table m u new h p = absurd h
recorded-play rows (k ∷ ms) (v ∷ us) table m u new h p = (h.0, h.1, recorded-play h.0 ms us table m u new h.2 p)

-- the record of a move undoes it
taken_back : (rows : List Row) (m : Move) (u : Undo) (next : List Row) → IsPlayed rows m u next → former next u ≡ rows
taken_back rows m u next p = ap (λ (v : Undo). former next v) p.kept ∙ takes_back rows m next p.plays

can_take_back : (rows : List Row) (m : Move) (u : Undo) (next : List Row) → IsPlayed rows m u next → CanTakeBack next u
can_take_back rows m u next p = subst (λ (v : Undo). CanTakeBack next v) (sym p.kept) (rows, p.plays, refl)

pub played-back : (us : List Undo) (rows : List Row) (m : Move) (u : Undo) (next : List Row) → IsPlayed rows m u next → first_table (us ++ u ∷ []) next ≡ first_table us rows
played-back us rows m u next p = first_more us u next ∙ ap (λ (t : List Row). first_table us t) (taken_back rows m u next p)

-- the last move is undone
pub record LeadsBack (rows : List Row) (moves : List Move) (us : List Undo) (u : Undo) (table : List Row) : Type 0 where
  pub can : CanTakeBack table u
  pub recorded : Recorded rows moves us (former table u)

pub recorded-back : (rows : List Row) (moves : List Move) (us : List Undo) (u : Undo) (table : List Row) → Recorded rows moves (us ++ u ∷ []) table → LeadsBack rows moves us u table
unfolding Recorded
recorded-back rows [] [] u table h = absurd h
recorded-back rows (m ∷ ms) [] u table h =
    let p : IsPlayed rows m u table = subst (λ (t : List Row). IsPlayed rows m u t) h.2.0 h.1 in
    let all : CanPlayAll rows (m ∷ ms) = (h.2.1.0, (table, p.plays, h.2.1.1)) in
    record {
      can = can_take_back rows m u table p;
      recorded = subst (λ (t : List Row). Recorded rows (m ∷ ms) [] t) (sym (taken_back rows m u table p)) (refl, all);
    }
recorded-back rows [] (v ∷ us) u table h = absurd h
recorded-back rows (m ∷ ms) (v ∷ us) u table h =
    let later : LeadsBack h.0 ms us u table = recorded-back h.0 ms us u table h.2 in
    record { can = later.can; recorded = (h.0, h.1, later.recorded) }

-- a move that was undone can be played again
pub recorded-free : (rows : List Row) (moves : List Move) (us : List Undo) (table : List Row) (m : Move) → Recorded rows moves us table → slice_get moves (length us) ≡ Some m
    → play_fault table m ≡ None
unfolding Recorded
recorded-free rows [] [] table m h e = absurd cc
recorded-free rows (k ∷ ms) [] table m h e = let same : k ≡ m = cc in subst (λ (n : Move). play_fault table n ≡ None) same h.1.1.1.accepted
recorded-free rows [] (u ∷ us) table m h e = absurd h
recorded-free rows (k ∷ ms) (u ∷ us) table m h e = recorded-free h.0 ms us table m h.2 e

pub recorded-again : (rows : List Row) (moves : List Move) (us : List Undo) (table : List Row) (m : Move) (u : Undo) (new : List Row) → Recorded rows moves us table
    → slice_get moves (length us) ≡ Some m → IsPlayed table m u new → Recorded rows moves (us ++ u ∷ []) new
unfolding Recorded
recorded-again rows [] [] table m u new h e p = absurd cc
recorded-again rows (k ∷ ms) [] table m u new h e p =
    let same : m ≡ k = cc in
    let q : IsPlayed table k u new = subst (λ (n : Move). IsPlayed table n u new) same p in
    let reached : h.1.1.0 ≡ new = played_same table k h.1.1.0 new h.1.1.1 q.plays in
    (new, subst (λ (r : List Row). IsPlayed r k u new) (sym h.0) q, (refl, subst (λ (t : List Row). CanPlayAll t ms) reached (h.1.0, h.1.1.2)))
recorded-again rows [] (v ∷ us) table m u new h e p = absurd h
recorded-again rows (k ∷ ms) (v ∷ us) table m u new h e p = (h.0, h.1, recorded-again h.0 ms us table m u new h.2 e p)

-- the moves with a record result in the table, and all moves can be played
recorded-plays : (rows : List Row) (moves : List Move) (us : List Undo) (table : List Row) → Recorded rows moves us table → PlaysAll rows (take (length us) moves) table
unfolding Recorded
recorded-plays rows moves [] table h = h.0
recorded-plays rows [] (u ∷ us) table h = absurd h
recorded-plays rows (m ∷ ms) (u ∷ us) table h = (h.0, h.1.plays, recorded-plays h.0 ms us table h.2)

recorded-all : (rows : List Row) (moves : List Move) (us : List Undo) (table : List Row) → Recorded rows moves us table → CanPlayAll rows moves
unfolding Recorded
recorded-all rows moves [] table h = subst (λ (t : List Row). CanPlayAll t moves) (sym h.0) h.1
recorded-all rows [] (u ∷ us) table h = absurd h
recorded-all rows (m ∷ ms) (u ∷ us) table h = let rest : CanPlayAll h.0 ms = recorded-all h.0 ms us table h.2 in (rest.0, (h.0, h.1.plays, rest.1))

pub recorded-table : (rows : List Row) (moves : List Move) (us : List Undo) (table : List Row) → Recorded rows moves us table
    → IsTableOf (record { first = rows; moves = moves; played = length us }) table
recorded-table rows moves us table h = record {
  in_range = recorded-most rows moves us table h;
  reached = recorded-plays rows moves us table h;
  others = recorded-all rows moves us table h;
}

-- a session without a move
pub recorded-begun : (table : List Row) (moves : List Move) (us : List Undo) → moves ≡ [] → us ≡ [] → Recorded (first_table us table) moves us table
recorded-begun table moves us e f =
    subst (λ (ms : List Move). Recorded (first_table us table) ms us table) (sym e)
    (subst (λ (vs : List Undo). Recorded (first_table vs table) [] vs table) (sym f) (subst (λ (t : List Row). Recorded t [] [] table) (sym (first_none table)) (recorded-none table)))

pub first-begun : (table : List Row) (us : List Undo) → us ≡ [] → first_table us table ≡ table
first-begun table us e = ap (λ (vs : List Undo). first_table vs table) e ∙ first_none table

-- the records of a session with these fields are in order
pub recorded-as : (first : List Row) (moves ms : List Move) (us vs : List Undo) (table : List Row) → ms ≡ moves → vs ≡ us → first_table us table ≡ first → Recorded first moves us table
    → Recorded (first_table vs table) ms vs table
recorded-as first moves ms us vs table e f g h =
    subst (λ (ks : List Move). Recorded (first_table vs table) ks vs table) (sym e)
    (subst (λ (ws : List Undo). Recorded (first_table ws table) moves ws table) (sym f) (subst (λ (r : List Row). Recorded r moves us table) (sym g) h))

pub first-as : (us vs : List Undo) (table first : List Row) → vs ≡ us → first_table us table ≡ first → first_table vs table ≡ first
first-as us vs table first f g = ap (λ (ws : List Undo). first_table ws table) f ∙ g

-- the first move that was undone
pub next_move : (moves : List Move) (us : List Undo) (m : Move) (n : ℕ) → n < length moves → n ≡ length us → m ≡ get_or moves n m → slice_get moves (length us) ≡ Some m
next_move moves us m n within e at = subst (λ k. slice_get moves k ≡ Some m) e (slice_get_read moves _ n m refl within at)

-- the last record is removed
pub recorded-last : (rows : List Row) (moves : List Move) (us vs : List Undo) (u : Undo) (table : List Row) → us ≡ vs ++ u ∷ [] → Recorded rows moves us table
    → LeadsBack rows moves vs u table
recorded-last rows moves us vs u table e h = recorded-back rows moves vs u table (subst (λ (ws : List Undo). Recorded rows moves ws table) e h)

pub first-last : (us vs : List Undo) (u : Undo) (table new : List Row) → us ≡ vs ++ u ∷ [] → new ≡ former table u → first_table vs new ≡ first_table us table
first-last us vs u table new e f = ap (λ (t : List Row). first_table vs t) f ∙ sym (first_more vs u table) ∙ ap (λ (ws : List Undo). first_table ws table) (sym e)

-- the moves after a further move is played
pub moves-after : (moves ks ms : List Move) (us vs : List Undo) (m : Move) → ks ≡ moves → vs ≡ us → ms ≡ take (length vs) ks ++ m ∷ [] → ms ≡ take (length us) moves ++ m ∷ []
moves-after moves ks ms us vs m e f g = g ∙ ap (λ (ws : List Undo). take (length ws) ks ++ m ∷ []) f ∙ ap (λ (ns : List Move). take (length us) ns ++ m ∷ []) e

pub records-after : (us vs ws : List Undo) (u : Undo) → vs ≡ us → ws ≡ vs ++ u ∷ [] → ws ≡ us ++ u ∷ []
records-after us vs ws u e f = f ∙ ap (λ (xs : List Undo). xs ++ u ∷ []) e

pub length-after : (moves ms : List Move) (n : ℕ) (m : Move) → n ≤ length moves → ms ≡ take n moves ++ m ∷ [] → length ms ≡ n + 1
length-after moves ms n m l e = ap (λ (ks : List Move). length ks) e ∙ length_push (take n moves) m ∙ ap (λ k. k + 1) (length-take-le n moves l)
