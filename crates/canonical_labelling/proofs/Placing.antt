-- Lists with an entry for each tetrahedron, filled in the order of the traversal.
use Rattle.std.proofs.Common.{◌≡◌, ℕ, ◌+◌, ◌<◌, ◌≤◌, [], List, length, get_or, sym, ap, ◌∙◌, subst, arith, below_more}
use Rattle.std.specs.Prelude.{◌≢◌, IsPermutation}
use Rattle.std.specs.List.{All, slice_set}
use Rattle.std.proofs.lemmas.List.{get_or-set_same, get_or-set_other}
use Rattle.std.proofs.lemmas.List.Elements.{All-from_get_or}
use Rattle.table_definitions.specs.Lists.{below}
use Rattle.table_definitions.specs.Permutation.{IsPermutationOfFour}
use Rattle.table_definitions.specs.Relabelling.{Relabelling}
use Rattle.table_definitions.proofs.Bijections.{onto, IsDistinct-from_before}
use Rattle.signature_definitions.specs.Labellings.{Start}
use Rattle.signature_laws.specs.Orders.{start_at, IsWholeOrder, Numbers}
use Rattle.signature_laws.proofs.Marking.{start_is}

-- the tetrahedron of each start in the order is in range
pub item_below : (n : ℕ) (order : List Start) (i t : ℕ) (s : Start) → IsWholeOrder n order → i < length order → s ≡ get_or order i s → t ≡ s.tet → t < n
item_below n order i t s h l e is = subst (λ m. m < n) (sym (is ∙ ap (λ (r : Start). r.tet) (start_is order i s l e))) (h.in_range i l)

-- one more entry is filled
pub placed_more : {V : Type 0} (n : ℕ) (order : List Start) (vals : List V) (d v : V) (expected : ℕ → V) (i t : ℕ) (s : Start) → IsWholeOrder n order → i < length order → s ≡ get_or order i s → t ≡ s.tet → v ≡ expected i
    → length vals ≡ n → ((k : ℕ) → k < i → get_or vals (start_at order k).tet d ≡ expected k) → (k : ℕ) → k < i + 1 → get_or (slice_set vals t v) (start_at order k).tet d ≡ expected k
placed_more n order vals d v expected i t s h l e is made size before =
    below_more (λ k. get_or (slice_set vals t v) (start_at order k).tet d ≡ expected k) i
    (λ k m. get_or-set_other vals t (start_at order k).tet v d (λ same. h.separate k i m l (same ∙ here)) ∙ before k m)
    (ap (λ u. get_or (slice_set vals t v) u d) (sym here) ∙ get_or-set_same vals t v d (let b = item_below n order i t s h l e is in omega arith) ∙ made)
  where
    here : t ≡ (start_at order i).tet
    here = is ∙ ap (λ (r : Start). r.tet) (start_is order i s l e)

-- images that are the indices in a whole order are a bijection
pub are_numbered : (n : ℕ) (order : List Start) (images : List ℕ) → IsWholeOrder n order → length order ≤ n → length images ≡ n
    → ((i : ℕ) → i < length order → get_or images (start_at order i).tet 0 ≡ i) → IsPermutation images (below n)
are_numbered n order images h limited size each = onto n images size (λ t l. omega (arith, (h.all t l).1, image t l)) (IsDistinct-from_before images separate)
  where
    image : (t : ℕ) (l : t < n) → get_or images t 0 ≡ (h.all t l).0
    image t l = ap (λ u. get_or images u 0) (sym (h.all t l).2) ∙ each (h.all t l).0 (h.all t l).1

    separate : (i j : ℕ) → i < j → j < length images → get_or images i 0 ≢ get_or images j 0
    separate i j d l e =
        let li : i < n = omega arith in
        let lj : j < n = omega arith in
        let same : (h.all i li).0 ≡ (h.all j lj).0 = sym (image i li) ∙ e ∙ image j lj in
        let tets : i ≡ j = sym (h.all i li).2 ∙ ap (λ k. (start_at order k).tet) same ∙ (h.all j lj).2 in
        absurd (omega arith)

-- permutations of the starts in a whole order are permutations of four
pub all_permute : (n : ℕ) (order : List Start) (perms : List (List ℕ)) → IsWholeOrder n order → length perms ≡ n → ((i : ℕ) → i < length order → get_or perms (start_at order i).tet [] ≡ (start_at order i).perm)
    → ((i : ℕ) → i < length order → IsPermutationOfFour (start_at order i).perm) → All IsPermutationOfFour perms
all_permute n order perms h size each permute = All-from_get_or IsPermutationOfFour perms [] (λ t l.
    let at = h.all t (omega arith) in
    subst IsPermutationOfFour (sym (each at.0 at.1) ∙ ap (λ u. get_or perms u []) at.2) (permute at.0 at.1))

-- the relabelling of the places maps each tetrahedron to its index
pub placed_numbers : (order : List Start) (by : Relabelling) (images : List ℕ) (perms : List (List ℕ)) → by ≡ record { images = images; perms = perms } → ((i : ℕ) → i < length order → get_or images (start_at order i).tet 0 ≡ i)
    → ((i : ℕ) → i < length order → get_or perms (start_at order i).tet [] ≡ (start_at order i).perm) → Numbers order by
placed_numbers order by images perms is each permute = subst (Numbers order) (sym is) (λ i l j. record { tet = each i l j; perm = permute i l j })
