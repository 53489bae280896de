-- What holds throughout a traversal whose types are found one by one.
use Rattle.std.proofs.Common.{◌≡◌, ℕ, zero, suc, ◌+◌, ◌*◌, ◌<◌, ◌≤◌, Bool, true, false, List, [], ◌∷◌, ◌++◌, length, refl, sym, ap, ◌∙◌, subst, arith, ⊎_elim}
use Rattle.std.specs.Prelude.{◌≢◌, All, slice_index, slice_set, if◌then◌else◌}
use Rattle.std.specs.List.{slice_index_or}
use Rattle.std.proofs.lemmas.Bool.{cases_lt, cases_eq}
use Rattle.std.proofs.lemmas.List.{length-append, length-set, get_or_append_left, get_or_push, get_or-set_same, get_or-set_other}
use Rattle.std.proofs.lemmas.List.Elements.{All-append}
use Rattle.basic_lemmas.proofs.Truths.{by_bool}
use Rattle.table_definitions.specs.Table.{Gluing, other_side, face_number}
use Rattle.table_definitions.specs.Places.{face_of}
use Rattle.signature_definitions.specs.Labellings.{Start}
use Rattle.signature_laws.specs.Orders.{start_at, is_visited, start_across, follow}
use Rattle.canonical_labelling.specs.Comparisons.{ComparisonView, IsComparison, numbered, crossed}
use Rattle.signature_laws.proofs.Growing.{met_from, met_at}
use Rattle.signature_laws.proofs.Marking.{met_inside, follow_met}
use Rattle.signature_laws.proofs.Reaching.{few_apart}
use Rattle.table_definitions.proofs.Marked.{mark_same}

pub few_numbered : (k : ℕ) (s : ComparisonView) → IsComparison k s → length s.order ≤ length s.numbers
few_numbered k s h = few_apart (length s.numbers) s.order (λ i l. let m = met_inside s.order s.visited i h.visited l in let e = h.marks in omega (arith, m, e)) separate
  where
    separate : (i j : ℕ) → i < j → j < length s.order → (start_at s.order i).tet ≢ (start_at s.order j).tet
    separate i j l m e = let f : i ≡ j = sym (h.numbers i (omega arith)) ∙ ap (slice_index s.numbers) e ∙ h.numbers j m in omega (arith, f)

-- a visited tetrahedron has its index in the order as its number
pub number_place : (k : ℕ) (s : ComparisonView) → IsComparison k s → (t : ℕ) → slice_index_or s.visited t false ≡ true → (slice_index s.numbers t < length s.order) × ((start_at s.order (slice_index s.numbers t)).tet ≡ t)
number_place k s h t e =
    let at = met_at s.order t (sym (h.visited t) ∙ e) in
    let i : ℕ = at.0 in
    let n : slice_index s.numbers t ≡ i = ap (slice_index s.numbers) (sym at.2) ∙ h.numbers i at.1 in
    let low = at.1 in
    (omega (arith, n, low), ap (λ j. (start_at s.order j).tet) n ∙ at.2)

-- a tetrahedron that is not visited gets the next number
fresh_numbers : (k : ℕ) (s : ComparisonView) (b : Start) → IsComparison k s → b.tet < length s.numbers → is_visited s.order b.tet ≡ false
    → (i : ℕ) → i < length (s.order ++ b ∷ []) → slice_index (slice_set s.numbers b.tet (length s.order)) (start_at (s.order ++ b ∷ []) i).tet ≡ i
fresh_numbers k s b h l unmet i m = ⊎_elim
    (λ (low : i < length s.order).
    let there : start_at (s.order ++ b ∷ []) i ≡ start_at s.order i = get_or_append_left s.order (b ∷ []) (record { tet = 0; perm = [] }) i low in
    ap (λ (r : Start). slice_index (slice_set s.numbers b.tet (length s.order)) r.tet) there
    ∙ get_or-set_other s.numbers b.tet (start_at s.order i).tet (length s.order) 0 (λ e. let t = met_from s.order b.tet i low e in cc)
    ∙ h.numbers i low)
    (λ (high : length s.order ≤ i).
    let e : length s.order ≡ i = omega (arith, length-append s.order (b ∷ [])) in
    let there : start_at (s.order ++ b ∷ []) i ≡ b = get_or_push s.order b (record { tet = 0; perm = [] }) i e in
    ap (λ (r : Start). slice_index (slice_set s.numbers b.tet (length s.order)) r.tet) there ∙ get_or-set_same s.numbers b.tet (length s.order) 0 l ∙ e)
    (cases_lt i (length s.order))

follow_grows : (visited : Bool) (from : Start) (g : Gluing) (order : List Start) → length order ≤ length (follow visited from g order)
follow_grows true from g order = omega arith
follow_grows false from g order = omega (arith, length-append order (start_across from g ∷ []))

pub numbered_holds : (k : ℕ) (s : ComparisonView) (from : Start) (g : Gluing) → IsComparison k s → g.tet < length s.numbers → IsComparison k (numbered (slice_index_or s.visited g.tet false) from g s)
numbered_holds k s from g h l = record {
  limited = subst (λ n. n ≤ 1000) (sym size) h.limited;
  marks = length-set s.visited g.tet true ∙ h.marks ∙ sym size;
  visited = follow_met from g s.order s.visited h.visited inside;
  numbers = numbers;
  crossed = h.crossed ∙ ap (λ n. 4 * n) (sym size);
  small = h.small;
  bounded_types = h.bounded_types;
  marked = λ p e. let low = h.marked p e in omega (arith, low, follow_grows (slice_index_or s.visited g.tet false) from g s.order);
}
  where
    inside : g.tet < length s.visited
    inside = let e = h.marks in omega (arith, e)

    size : length (if slice_index_or s.visited g.tet false then s.numbers else slice_set s.numbers g.tet (length s.order)) ≡ length s.numbers
    size = by_bool (slice_index_or s.visited g.tet false) (λ e. rw e refl) (λ e. rw e (length-set s.numbers g.tet (length s.order)))

    numbers : (i : ℕ) → i < length (follow (slice_index_or s.visited g.tet false) from g s.order)
        → slice_index (if slice_index_or s.visited g.tet false then s.numbers else slice_set s.numbers g.tet (length s.order)) (start_at (follow (slice_index_or s.visited g.tet false) from g s.order) i).tet ≡ i
    numbers = by_bool (slice_index_or s.visited g.tet false)
        (λ e. rw e h.numbers)
        (λ e. rw e (fresh_numbers k s (start_across from g) h l (sym (h.visited g.tet) ∙ e)))

-- the tetrahedron across the gluing has its number in the next state
pub number_here : (k : ℕ) (s : ComparisonView) (from : Start) (g : Gluing) → IsComparison k s → g.tet < length s.numbers
    → let t : ComparisonView = numbered (slice_index_or s.visited g.tet false) from g s in (slice_index t.numbers g.tet < length t.order) × ((start_at t.order (slice_index t.numbers g.tet)).tet ≡ g.tet)
number_here k s from g h l =
    let e = h.marks in
    number_place k (numbered (slice_index_or s.visited g.tet false) from g s) (numbered_holds k s from g h l) g.tet (mark_same s.visited g.tet (omega (arith, e)))

-- the types are less than 3 with one more type
pub more_types : (types : List ℕ) (t : ℕ) → All (λ t. t < 3) types → t < 3 → All (λ t. t < 3) (types ++ t ∷ [])
more_types types t h l = All-append (λ t. t < 3) types (t ∷ []) h one
  where
    one : All (λ t. t < 3) (t ∷ [])
    one zero d m = l
    one (suc k) d m = absurd (omega arith)

pub crossed_holds : (k : ℕ) (s : ComparisonView) (visited : Bool) (at : ℕ) (g : Gluing) → IsComparison k s → face_number (other_side (face_of at) g) < 4 * length s.order → IsComparison (k + 1) (crossed visited at g s)
crossed_holds k s visited at g h low = record {
  limited = h.limited;
  marks = h.marks;
  visited = h.visited;
  numbers = h.numbers;
  crossed = length-set s.crossed _ true ∙ h.crossed;
  small = more_types s.types (if visited then 2 else 1) h.small (by_bool visited (λ e. rw e (omega arith)) (λ e. rw e (omega arith)));
  bounded_types = let f = h.bounded_types in omega (arith, f, length-append s.types ((if visited then 2 else 1) ∷ []));
  marked = λ p e. ⊎_elim
      (λ (same : p ≡ face_number (other_side (face_of at) g)). omega (arith, same, low))
      (λ (separate : p ≡ face_number (other_side (face_of at) g) → ⊥). h.marked p (sym (get_or-set_other s.crossed (face_number (other_side (face_of at) g)) p true false separate) ∙ e))
      (cases_eq p (face_number (other_side (face_of at) g)));
}
