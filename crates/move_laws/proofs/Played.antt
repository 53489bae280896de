-- Sequences of moves, descents and the generator each result in at most one table.
use Rattle.std.proofs.Common.{◌≡◌, ◌≤◌, Bool, true, false, List, [], ◌∷◌, ◌++◌, Option, Some, None, refl, sym, ap, ◌∙◌, subst, arith, inl, inr}
use Rattle.std.specs.Prelude.{◌⊎◌, nat_lt, if◌then◌else◌}
use Rattle.std.specs.Option.{option_or}
use Rattle.std.proofs.lemmas.Bool.{ltb-false}
use Rattle.table_definitions.specs.Table.{max_tets, Row, IsTable}
use Rattle.move_definitions.specs.declared.MoveFault.{MoveFault}
use Rattle.move_definitions.specs.declared.MoveFault.TheVariants.{TooMany}
use Rattle.move_definitions.specs.Moves.{Move, move_fault, play_fault, new_length, Plays, PlaysAll}
use Rattle.move_definitions.specs.Certificates.{IsStandard, descent_move, IsDescent, candidates, drawn, next_state, IsMaking}
use Rattle.move_definitions.specs.Laws.{PlaysAgree, DescentsAgree, MakingsAgree}
use Rattle.move_laws.proofs.Agreement.{moves_agree_lem}
use Rattle.move_laws.proofs.MadeTables.{moves_make_tables_lem}

-- the result of a move that is played is within the limit
second_none : (a b : Option MoveFault) → option_or a b ≡ None → b ≡ None
second_none None b e = e
second_none (Some a) b e = cc

limit : (b : Bool) → (if b then Some TooMany else None) ≡ None → b ≡ false
limit true e = cc
limit false e = refl

played_fits : (rows : List Row) (m : Move) → play_fault rows m ≡ None → new_length rows m ≤ max_tets
played_fits rows m e =
    ltb-false max_tets (new_length rows m) (limit (nat_lt max_tets (new_length rows m)) (second_none (move_fault rows m) (if nat_lt max_tets (new_length rows m) then Some TooMany else None) e))

pub played_table : (old : List Row) (m : Move) (new : List Row) → Plays old m new → IsTable new
played_table old m new p = moves_make_tables_lem old m new p.table (let fits = played_fits old m p.accepted in rw p.moved.length_is fits) p.moved

pub played_same : (old : List Row) (m : Move) (new new' : List Row) → Plays old m new → Plays old m new' → new ≡ new'
played_same old m new new' p p' = moves_agree_lem old m new new' p.table p.moved p'.moved

pub all_played_same : (rows : List Row) (moves : List Move) (last last' : List Row) → PlaysAll rows moves last → PlaysAll rows moves last' → last ≡ last'
all_played_same rows [] last last' e e' = sym e ∙ e'
all_played_same rows (m ∷ ms) last last' (next, first, rest) (next', first', rest') =
    let same : next' ≡ next = played_same rows m next' next first' first in
    all_played_same next ms last last' rest (subst (λ (t : List Row). PlaysAll t ms last') same rest')

-- moves that are played one after another result in a table
pub all_led_table : (rows : List Row) (moves : List Move) (last : List Row) → IsTable rows → PlaysAll rows moves last → IsTable last
all_led_table rows [] last table e = subst (λ (t : List Row). IsTable t) e table
all_led_table rows (m ∷ ms) last table (next, first, rest) = all_led_table next ms last (played_table rows m next first) rest

-- a further move at the end
pub played_on : (rows : List Row) (moves : List Move) (table : List Row) (m : Move) (next : List Row) → PlaysAll rows moves table → Plays table m next → PlaysAll rows (moves ++ m ∷ []) next
played_on rows [] table m next h p = (next, subst (λ (r : List Row). Plays r m next) (sym h) p, refl)
played_on rows (k ∷ ks) table m next h p = (h.0, h.1, played_on h.0 ks table m next h.2 p)

pub plays_agree_lem : PlaysAgree
plays_agree_lem old [] last last' table p p' = (subst (λ (rows : List Row). IsTable rows) p table, sym p ∙ p')
plays_agree_lem old (m ∷ ms) last last' table (new, p, rest) (new', p', rest') =
    let same : new' ≡ new = played_same old m new' new p' p in
    plays_agree_lem new ms last last' (played_table old m new p) rest (subst (λ (rows : List Row). PlaysAll rows ms last') same rest')

-- a descent

move_is : (o : Option Move) (m m' : Move) → o ≡ Some m → o ≡ Some m' → m ≡ m'
move_is o m m' e e' = cc

pub descents_agree_lem : DescentsAgree
descents_agree_lem rows [] last [] last' d d' = (refl, sym d.0 ∙ d'.0)
descents_agree_lem rows [] last (m ∷ ms) last' d d' = absurd (ends d.1)
  where
    ends : IsStandard rows ⊎ (descent_move rows ≡ None) → ⊥
    ends (inl s) = d'.0 s
    ends (inr n) = (let go : descent_move rows ≡ Some m = d'.1 in cc)
descents_agree_lem rows (m ∷ ms) last [] last' d d' = absurd (ends d'.1)
  where
    ends : IsStandard rows ⊎ (descent_move rows ≡ None) → ⊥
    ends (inl s) = d.0 s
    ends (inr n) = (let go : descent_move rows ≡ Some m = d.1 in cc)
descents_agree_lem rows (m ∷ ms) last (m' ∷ ms') last' (go, first, (next, p, rest)) (go', first', (next', p', rest')) =
    let moves : m' ≡ m = move_is (descent_move rows) m' m first' first in
    let played : Plays rows m next' = subst (λ (k : Move). Plays rows k next') moves p' in
    let same : next' ≡ next = played_same rows m next' next played p in
    let later : (ms ≡ ms') × (last ≡ last') = descents_agree_lem next ms last ms' last' rest (subst (λ (t : List Row). IsDescent t ms' last') same rest') in
    (λ i. sym moves i ∷ later.0 i, later.1)

-- the generator

pub makings_agree_lem : MakingsAgree
makings_agree_lem most x rows [] last [] last' d d' = (refl, sym d.0 ∙ d'.0)
makings_agree_lem most x rows [] last (m ∷ ms) last' d (fewer, e, first, rest) = absurd (ends d.1)
  where
    ends : (most ≡ 0) ⊎ (candidates rows ≡ []) → ⊥
    ends (inl z) = omega arith
    ends (inr n) = (let none : drawn (next_state x) (candidates rows) ≡ None = ap (drawn (next_state x)) n in cc)
makings_agree_lem most x rows (m ∷ ms) last [] last' (fewer, e, first, rest) d' = absurd (ends d'.1)
  where
    ends : (most ≡ 0) ⊎ (candidates rows ≡ []) → ⊥
    ends (inl z) = omega arith
    ends (inr n) = (let none : drawn (next_state x) (candidates rows) ≡ None = ap (drawn (next_state x)) n in cc)
makings_agree_lem most x rows (m ∷ ms) last (m' ∷ ms') last' (fewer, e, first, (next, p, rest)) (fewer', e', first', (next', p', rest')) =
    let moves : m' ≡ m = move_is (drawn (next_state x) (candidates rows)) m' m first' first in
    let played : Plays rows m next' = subst (λ (k : Move). Plays rows k next') moves p' in
    let same : next' ≡ next = played_same rows m next' next played p in
    let left : fewer' ≡ fewer = omega arith in
    let there : IsMaking fewer (next_state x) next ms' last' = subst (λ n. IsMaking n (next_state x) next ms' last') left (subst (λ (t : List Row). IsMaking fewer' (next_state x) t ms' last') same rest') in
    let later : (ms ≡ ms') × (last ≡ last') = makings_agree_lem fewer (next_state x) next ms last ms' last' rest there in
    (λ i. sym moves i ∷ later.0 i, later.1)
