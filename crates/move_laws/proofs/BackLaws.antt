-- Undoing a move restores the table.
use Rattle.std.proofs.Common.{◌≡◌, ℕ, suc, ◌+◌, ◌<◌, Bool, true, false, cond, List, [], ◌∷◌, length, get_or, Option, Some, None, refl, sym, ap, ◌∙◌, subst, arith}
use Rattle.std.specs.Prelude.{not, option_map, option_and_then, All}
use Rattle.std.specs.List.{range_with_len}
use Rattle.std.specs.List.Sorted.{IsStrictlyIncreasing}
use Rattle.std.proofs.lemmas.List.{length-map}
use Rattle.std.proofs.lemmas.List.Elements.{All-map, All-get_or}
use Rattle.std.proofs.lemmas.List.FromFn.{length-range_with_len}
use Rattle.std.proofs.lemmas.List.Kept.{AllPairs-from_increasing}
use Rattle.table_definitions.specs.Lists.{has, below, rank_without}
use Rattle.table_definitions.specs.Permutation.{image, IsPermutationOfFour}
use Rattle.table_definitions.specs.Table.{Gluing, Row, Face, glue, other_side, inverse_gluing, IsTable}
use Rattle.table_definitions.specs.Replacing.{Replacement, replaced_length, number_of_kept, free_numbers, kept_gluing, back_to_fresh, replaced}
use Rattle.table_definitions.specs.Relabelling.{gluing_under}
use Rattle.table_definitions.proofs.TableLaws.{glued_tet, glued_face}
use Rattle.table_definitions.proofs.Faces.{there_and_back, back_again}
use Rattle.table_definitions.proofs.Permutations.{image_below}
use Rattle.table_definitions.specs.Replaceable.{fresh_numbers, fresh_glue, IsFreed, CanReplace}
use Rattle.table_definitions.proofs.Ranks.{rank, stays, closed_up-rank, at_rank, rank_all}
use Rattle.table_definitions.proofs.Retained.{IsKeptAs, kept_as, length-replaced, fresh_row_at, kept_row_at, glue-fresh, glue-kept}
use Rattle.table_definitions.proofs.FreshRows.{fresh_tet, length-fresh_row, back_is}
use Rattle.move_definitions.specs.Moves.{Move, Facet, kept, kept_place_after, place_after, moved_gluing, IsMoved, Plays, facet_gluing, old_tets}
use Rattle.move_definitions.proofs.StandIns.{image_after-kept}
use Rattle.move_definitions.specs.Undos.{Undo, taken_numbers, undo_of, back_exchange, former, CanTakeBack, IsTakenBack, TakesBack}
use Rattle.move_laws.specs.Facets.{numbered}
use Rattle.move_laws.proofs.LegalLaws.{IsLegal, legal_from}
use Rattle.move_laws.proofs.NumberLaws.{numbers-of, row-of, has-range, range-has, not-has, range-up, range-within, picked-up, picked-within, filter-has}
use Rattle.move_laws.proofs.ListedLaws.{old_of_tet, taken-has, length-taken, enough}
use Rattle.move_laws.proofs.StandLaws.{under_kept, closes, stand_put, face_at, outer_label}
use Rattle.move_laws.proofs.ExchangeLaws.{one_face}
use Rattle.move_laws.proofs.MovedLaws.{kept_under, kept_place}

-- a legal move, played on `old`, that results in `new`
pub record HasMoved (old : List Row) (m : Move) (new : List Row) : Type 0 where
  pub legal : IsLegal old m
  pub moved : IsMoved old m new

abbrev back : List Row → Move → Replacement
back old m = back_exchange (undo_of old m)

abbrev saved : List Row → ℕ → Row
saved old t = get_or old t []

saved-numbers : (old : List Row) (m : Move) → fresh_numbers (back old m) ≡ taken_numbers old m
saved-numbers old m = numbers-of (saved old) (taken_numbers old m)

back-length : (old : List Row) (m : Move) (new : List Row) → HasMoved old m new → replaced_length new (back old m) ≡ length old
back-length old m new h =
    let a = length-taken old m h.legal in
    let t : ℕ → ℕ × Row = λ u. (u, saved old u) in
    let b : length (numbered (saved old) (taken_numbers old m)) ≡ length (taken_numbers old m) = length-map (taken_numbers old m) t in
    let c : length (range_with_len (kept old m) (length m.core)) ≡ length m.core = length-range_with_len (kept old m) (length m.core) in
    let d = h.moved.length_is in
    let e = enough old m h.legal in
    omega arith

-- a face of a removed tetrahedron, saved to undo the move

saved-has : (old : List Row) (m : Move) (t : ℕ) → t < length old → has (fresh_numbers (back old m)) t ≡ has (old_tets old m) t
saved-has old m t l = ap (λ (ns : List ℕ). has ns t) (saved-numbers old m) ∙ taken-has old m t l

saved-glue : (old : List Row) (m : Move) (x : Face) → x.tet < length old → has (old_tets old m) x.tet ≡ true → fresh_glue (back old m) x ≡ glue old x
saved-glue old m x l h =
    ap (λ (row : Row). get_or row x.face None) (row-of (range_with_len (kept old m) (length m.core)) (saved old) (taken_numbers old m) x.tet (taken-has old m x.tet l ∙ h))

record Saved (old : List Row) (m : Move) (x : Face) (g : Gluing) : Type 0 where
  in_range : x.tet < length old
  taken : has (old_tets old m) x.tet ≡ true
  glued : glue old x ≡ Some g
  face : x.face < 4

saved-face : (old : List Row) (m : Move) (x : Face) (g : Gluing) → IsLegal old m → fresh_glue (back old m) x ≡ Some g → Saved old m x g
saved-face old m x g legal e =
    let h : has (taken_numbers old m) x.tet ≡ true = ap (λ (ns : List ℕ). has ns x.tet) (sym (saved-numbers old m)) ∙ fresh_tet (back old m) x g e in
    let taken : has (old_tets old m) x.tet ≡ true = filter-has (has (old_tets old m)) (below (length old)) x.tet h in
    let glued : glue old x ≡ Some g =
    sym (ap (λ (row : Row). get_or row x.face None) (row-of (range_with_len (kept old m) (length m.core)) (saved old) (taken_numbers old m) x.tet h)) ∙ e in
    record { in_range = glued_tet old x g glued; taken = taken; glued = glued; face = glued_face old x g legal.table.four_faces glued }

-- the numbers of tetrahedra after the move is undone

gone-not : (old : List Row) (m : Move) (u : ℕ) → u < kept old m → has (range_with_len (kept old m) (length m.core)) u ≡ false
gone-not old m u l = not-has (range_with_len (kept old m) (length m.core)) u (λ h. (let r = range-has (kept old m) (length m.core) u h in let r0 = r.0 in absurd (omega arith)))

number-back : (old : List Row) (m : Move) (new : List Row) (t : ℕ) → HasMoved old m new → t < length old → has (old_tets old m) t ≡ false → number_of_kept new (back old m) (rank_without (old_tets old m) t) ≡ t
number-back old m new t h l free =
    let c = closes old m t h.legal l free in
    let fewer = c.fewer in
    let u : ℕ = rank_without (old_tets old m) t in
    let gone : List ℕ = range_with_len (kept old m) (length m.core) in
    let ascends = AllPairs-from_increasing gone (range-up (kept old m) (length m.core)) in
    let place : rank_without gone u ≡ rank (stays (taken_numbers old m)) t =
    closed_up-rank gone u ascends ∙ rank_all (stays gone) u (λ v q. ap not (gone-not old m v (omega arith))) ∙ sym c.rank_is in
    let same : rank (stays (taken_numbers old m)) t ≡ rank (stays (fresh_numbers (back old m))) t = ap (λ (ns : List ℕ). rank (stays ns) t) (sym (saved-numbers old m)) in
    let n = back-length old m new h in
    ap (λ i. get_or (free_numbers new (back old m)) i 0) (place ∙ same)
    ∙ (at_rank (stays (fresh_numbers (back old m))) (replaced_length new (back old m)) t (omega arith) (ap not (saved-has old m t l ∙ free))).is

-- how the faces of retained tetrahedra are glued in the new table

kept-glue : (old : List Row) (m : Move) (new : List Row) (x : Face) → HasMoved old m new → x.tet < length old → x.face < 4 → has (old_tets old m) x.tet ≡ false
    → glue new (kept_place old m x) ≡ option_and_then (moved_gluing old m x (kept_place_after old m x.tet)) (glue old x)
kept-glue old m new x h lt l free =
    ap (glue new) (sym (kept_under old m x l)) ∙ h.moved.outer x (kept_place_after old m x.tet) lt l (image_after-kept old m x free)

-- a face of a retained tetrahedron that was glued to an old facet
record LedTo (old : List Row) (m : Move) (x : Face) (g : Gluing) : Type 0 where
  f : Facet
  j : ℕ
  new : j < length m.core
  at : place_after old m (other_side x g) ≡ Some (facet_gluing old m f j)

led_to : (old : List Row) (m : Move) (x : Face) (g : Gluing) → IsLegal old m → x.face < 4 → has (old_tets old m) x.tet ≡ false → glue old x ≡ Some g → has (old_tets old m) g.tet ≡ true → LedTo old m x g
led_to old m x g legal l free e h =
    let q = old_of_tet old m g.tet legal h in
    let i : ℕ = q.0 in
    let f : Facet = q.1 in
    let y : Face = other_side x g in
    let permutes = legal.table.permutes x g e in
    let ly : y.face < 4 = image_below g.perm permutes x.face l in
    let new : image f.labels y.face < length m.core = outer_label old m i f y (inverse_gluing x g) legal q.2 (sym q.3) ly (legal.table.leads_back x g e) free in
    record { f = f; j = image f.labels y.face; new = new; at = ap (place_after old m) (face_at f y q.2.labelled (sym q.3) ly) ∙ stand_put old m i (image f.labels y.face) f legal q.2 new }

freed_back : (old : List Row) (m : Move) (new : List Row) (x : Face) (g : Gluing) → HasMoved old m new → Saved old m x g → has (old_tets old m) g.tet ≡ false → IsFreed new (back old m) (other_side x g)
freed_back old m new x g h s free =
    let table = h.legal.table in
    let y : Face = other_side x g in
    let permutes = table.permutes x g s.glued in
    let inside = table.in_range x g s.glued in
    let ly : y.face < 4 = image_below g.perm permutes x.face s.face in
    let home : glue old y ≡ Some (inverse_gluing x g) = table.leads_back x g s.glued in
    let led = led_to old m y (inverse_gluing x g) h.legal ly free home s.taken in
    let k : Gluing = kept_place_after old m g.tet in
    let put : Gluing = gluing_under k (facet_gluing old m led.f led.j) (inverse_gluing x g) in
    let fewer = (closes old m g.tet h.legal inside free).fewer in
    let n = h.moved.length_is in
    let new_label = led.new in
    record {
      old = rank_without (old_tets old m) g.tet;
      gluing = put;
      in_range = omega arith;
      is_kept = gone-not old m (rank_without (old_tets old m) g.tet) fewer;
      number = number-back old m new g.tet h inside free;
      glued = kept-glue old m new y h inside ly free ∙ ap (option_and_then (moved_gluing old m y k)) home ∙ ap (option_map (λ r. gluing_under k r (inverse_gluing x g))) led.at;
      led_to_removed = has-range (kept old m) (length m.core) (kept old m + led.j) (omega arith) (omega arith);
    }

pub can_take_back : (old : List Row) (m : Move) (new : List Row) → HasMoved old m new → CanReplace new (back_exchange (undo_of old m))
can_take_back old m new h = record {
  removed_ascend = range-up (kept old m) (length m.core);
  removed_in_range = range-within (kept old m) (length m.core) (length new) (let n = h.moved.length_is in omega arith);
  fresh_ascend = subst (λ (ns : List ℕ). IsStrictlyIncreasing ns) (sym (saved-numbers old m)) (picked-up (has (old_tets old m)) (length old));
  fresh_in_range = subst (λ (ns : List ℕ). All (λ u. u < replaced_length new (back old m)) ns) (sym (saved-numbers old m))
      (picked-within (has (old_tets old m)) (length old) (replaced_length new (back old m)) (let n = back-length old m new h in omega arith));
  limited = (let n = back-length old m new h in let f = table.limited in omega arith);
  four_faces = All-map (λ (x : ℕ × Row). length x.1 ≡ 4) (λ t. (t, saved old t)) (taken_numbers old m)
      (λ k d l. All-get_or (λ (row : Row). length row ≡ 4) old (get_or (taken_numbers old m) k d) [] (picked-within (has (old_tets old m)) (length old) (length old) (omega arith) k d l) table.four_faces);
  permutes = λ x g e. table.permutes x g (saved-face old m x g h.legal e).glued;
  in_range = λ x g e. (let n = back-length old m new h in let i = table.in_range x g (saved-face old m x g h.legal e).glued in omega arith);
  separate = λ x g e. table.separate x g (saved-face old m x g h.legal e).glued;
  leads_back = λ x g e f. leads x g (saved-face old m x g h.legal e) f;
  freed = λ x g e f. (let s = saved-face old m x g h.legal e in freed_back old m new x g h s (sym (saved-has old m g.tet (table.in_range x g s.glued)) ∙ f));
  one_each = λ x z g k e f free same. (let s = saved-face old m x g h.legal e in let t = saved-face old m z k h.legal f in one_face old table x z g k s.glued t.glued s.face t.face same);
}
  where
    table : IsTable old
    table = h.legal.table

    leads : (x : Face) (g : Gluing) → Saved old m x g → has (fresh_numbers (back old m)) g.tet ≡ true → fresh_glue (back old m) (other_side x g) ≡ Some (inverse_gluing x g)
    leads x g s f =
        let inside = table.in_range x g s.glued in
        saved-glue old m (other_side x g) inside (sym (saved-has old m g.tet inside) ∙ f) ∙ table.leads_back x g s.glued

-- the restored table equals the old one, row for row

kept_again : (old : List Row) (m : Move) (new : List Row) (x : Face) (o : Option Gluing) → HasMoved old m new → x.tet < length old → x.face < 4 → has (old_tets old m) x.tet ≡ false → glue old x ≡ o
    → kept_gluing new (back old m) x (option_and_then (moved_gluing old m x (kept_place_after old m x.tet)) o) ≡ o
kept_again old m new x None h lt l free e = refl
kept_again old m new x (Some g) h lt l free e = by_test (has (old_tets old m) g.tet) refl
  where
    inside : g.tet < length old
    inside = h.legal.table.in_range x g e

    permutes : IsPermutationOfFour g.perm
    permutes = h.legal.table.permutes x g e

    shown : (k : Gluing) (b : Bool) → has (range_with_len (kept old m) (length m.core)) k.tet ≡ b
        → kept_gluing new (back old m) x (Some k) ≡ cond b (back_to_fresh (back old m) x) (Some (record { tet = number_of_kept new (back old m) k.tet; perm = k.perm }))
    shown k b q = ap (λ c. cond c (back_to_fresh (back old m) x) (Some (record { tet = number_of_kept new (back old m) k.tet; perm = k.perm }))) q

    by_test : (b : Bool) → has (old_tets old m) g.tet ≡ b → kept_gluing new (back old m) x (moved_gluing old m x (kept_place_after old m x.tet) g) ≡ Some g
    by_test true q =
        let led = led_to old m x g h.legal l free e q in
        let new_label = led.new in
        let s : Gluing = kept_place_after old m x.tet in
        let put : Gluing = gluing_under s (facet_gluing old m led.f led.j) g in
        let y : Face = other_side x g in
        let home : fresh_glue (back old m) y ≡ Some (inverse_gluing x g) = saved-glue old m y inside q ∙ h.legal.table.leads_back x g e in
        let to_kept : has (fresh_numbers (back old m)) x.tet ≡ false = saved-has old m x.tet lt ∙ free in
        ap (λ (r : Option Gluing). kept_gluing new (back old m) x (option_map (λ t. gluing_under s t g) r)) led.at
        ∙ shown put true (has-range (kept old m) (length m.core) (kept old m + led.j) (omega arith) (omega arith))
        ∙ ap (back_to_fresh (back old m)) (sym (there_and_back x g permutes l))
        ∙ back_is new (back old m) (can_take_back old m new h) y (inverse_gluing x g) home to_kept
        ∙ ap (λ (k : Gluing). Some k) (back_again x g permutes)
    by_test false q =
        let s : Gluing = kept_place_after old m x.tet in
        let k : Gluing = record { tet = rank_without (old_tets old m) g.tet; perm = g.perm } in
        let fewer = (closes old m g.tet h.legal inside q).fewer in
        ap (λ (r : Option Gluing). kept_gluing new (back old m) x (option_map (λ t. gluing_under s t g) r)) (image_after-kept old m (other_side x g) q)
        ∙ ap (λ (t : Gluing). kept_gluing new (back old m) x (Some t)) (under_kept (rank_without (old_tets old m) x.tet) (rank_without (old_tets old m) g.tet) g permutes)
        ∙ shown k false (gone-not old m (rank_without (old_tets old m) g.tet) fewer)
        ∙ ap (λ n. Some (record { tet = n; perm = g.perm })) (number-back old m new g.tet h inside q)

glue-again : (old : List Row) (m : Move) (new : List Row) (x : Face) → HasMoved old m new → x.tet < length old → x.face < 4 → glue (former new (undo_of old m)) x ≡ glue old x
glue-again old m new x h lt l = by_test (has (old_tets old m) x.tet) refl
  where
    by_test : (b : Bool) → has (old_tets old m) x.tet ≡ b → glue (former new (undo_of old m)) x ≡ glue old x
    by_test true q =
        let n = back-length old m new h in
        glue-fresh new (back old m) x (omega arith) (saved-has old m x.tet lt ∙ q) ∙ saved-glue old m x lt q
    by_test false q =
        let c : ℕ = rank_without (old_tets old m) x.tet in
        let fewer = (closes old m x.tet h.legal lt q).fewer in
        let n = h.moved.length_is in
        let k : IsKeptAs new (back old m) c x.tet =
        subst (λ u. IsKeptAs new (back old m) c u) (number-back old m new x.tet h lt q) (kept_as new (back old m) (can_take_back old m new h) c (omega arith) (gone-not old m c fewer)) in
        glue-kept new (back old m) c x.tet x.face k l ∙ ap (kept_gluing new (back old m) x) (kept-glue old m new x h lt l q) ∙ kept_again old m new x (glue old x) h lt l q refl

same_elements : {X : Type 0} (d : X) (xs ys : List X) → length xs ≡ length ys → ((k : ℕ) → k < length xs → get_or xs k d ≡ get_or ys k d) → xs ≡ ys
same_elements d [] [] n all = refl
same_elements d [] (y ∷ ys) n all = absurd (omega arith)
same_elements d (x ∷ xs) [] n all = absurd (omega arith)
same_elements d (x ∷ xs) (y ∷ ys) n all = ap (λ z. z ∷ xs) (all 0 (omega arith)) ∙ ap (λ zs. y ∷ zs) (same_elements d xs ys (omega arith) (λ k l. all (suc k) (omega arith)))

long_row : (old : List Row) (m : Move) (new : List Row) (t : ℕ) → HasMoved old m new → t < length old → length (get_or (former new (undo_of old m)) t []) ≡ 4
long_row old m new t h l = by_test (has (fresh_numbers (back old m)) t) refl
  where
    by_test : (b : Bool) → has (fresh_numbers (back old m)) t ≡ b → length (get_or (former new (undo_of old m)) t []) ≡ 4
    by_test true q =
        let n = back-length old m new h in
        ap length (fresh_row_at new (back old m) t (omega arith) q) ∙ length-fresh_row new (back old m) (can_take_back old m new h) t q
    by_test false q = let n = back-length old m new h in ap length (kept_row_at new (back old m) t (omega arith) q)

taken_back : (old : List Row) (m : Move) (new : List Row) → HasMoved old m new → former new (undo_of old m) ≡ old
taken_back old m new h = same_elements [] (former new (undo_of old m)) old same_length row
  where
    same_length : length (former new (undo_of old m)) ≡ length old
    same_length = length-replaced new (back old m) ∙ back-length old m new h

    row : (t : ℕ) → t < length (former new (undo_of old m)) → get_or (former new (undo_of old m)) t [] ≡ get_or old t []
    row t l =
        let n = same_length in
        let a : length (get_or (former new (undo_of old m)) t []) ≡ 4 = long_row old m new t h (omega arith) in
        let b : length (get_or old t []) ≡ 4 = All-get_or (λ (r : Row). length r ≡ 4) old t [] (omega arith) h.legal.table.four_faces in
        same_elements None (get_or (former new (undo_of old m)) t []) (get_or old t []) (a ∙ sym b) (λ f q. glue-again old m new (record { tet = t; face = f }) h (omega arith) (omega arith))

has_moved : (old : List Row) (m : Move) (new : List Row) → Plays old m new → HasMoved old m new
has_moved old m new plays = record { legal = legal_from old m plays.table plays.moved.core plays.moved.legal; moved = plays.moved }

pub takes_back : TakesBack
takes_back old m new plays = taken_back old m new (has_moved old m new plays)

-- what the functions that undo a move return is each table on which the move was played
pub taken_back_by : (rows : List Row) (u : Undo) (removed : List ℕ) (fresh : List (ℕ × Row)) (now : List Row) → removed ≡ (back_exchange u).removed → fresh ≡ u.rows
    → now ≡ replaced rows (record { removed = removed; fresh = fresh }) → IsTakenBack rows u now
taken_back_by rows u removed fresh now er ef e =
    let mk : List ℕ → List (ℕ × Row) → Replacement = λ ns xs. record { removed = ns; fresh = xs } in
    let is : now ≡ former rows u = e ∙ ap (λ ns. replaced rows (mk ns fresh)) er ∙ ap (λ xs. replaced rows (mk (back_exchange u).removed xs)) ef in
    λ old plays kept. is ∙ ap (former rows) kept ∙ takes_back old u.played rows plays

pub back_by : (rows : List Row) (u : Undo) (removed : List ℕ) (fresh : List (ℕ × Row)) → CanTakeBack rows u → removed ≡ (back_exchange u).removed → fresh ≡ u.rows → CanReplace rows (record { removed = removed; fresh = fresh })
back_by rows u removed fresh (old, plays, e) er ef =
    let mk : List ℕ → List (ℕ × Row) → Replacement = λ ns xs. record { removed = ns; fresh = xs } in
    let whole : mk removed fresh ≡ back_exchange (undo_of old u.played) = ap (λ ns. mk ns fresh) er ∙ ap (mk (back_exchange u).removed) ef ∙ ap back_exchange e in
    subst (λ (r : Replacement). CanReplace rows r) (sym whole) (can_take_back old u.played rows (has_moved old u.played rows plays))
