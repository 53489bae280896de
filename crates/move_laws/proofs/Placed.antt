-- The relabelling that the inverse of a move results in: the image of each tetrahedron of the old table.
use Rattle.std.proofs.Common.{◌≡◌, ℕ, ◌+◌, ◌-◌, ◌<◌, ◌≤◌, Bool, true, false, List, [], length, map, get_or, Option, Some, None, refl, sym, ap, ◌∙◌, subst, arith, inl, inr}
use Rattle.std.specs.Prelude.{◌⊎◌, ◌==◌, ◌||◌, ◌≢◌, nat_lt, not, slice_index}
use Rattle.std.specs.List.{list_all, slice_index_or, position_or_len}
use Rattle.std.proofs.lemmas.List.{get_or-map, length-map}
use Rattle.std.proofs.lemmas.List.Sums.{position_or_len_is}
use Rattle.std.proofs.lemmas.List.Elements.{All-from_get_or}
use Rattle.std.proofs.lemmas.List.FromFn.{length-range_with_len, get_or-range_with_len}
use Rattle.std.proofs.lemmas.Bool.{eq-eqb, ne_eqb}
use Rattle.table_definitions.specs.Lists.{below, has, rank_without}
use Rattle.table_definitions.specs.Permutation.{IsPermutationOfFour, is_permutation, preimage}
use Rattle.table_definitions.specs.Table.{Gluing, Row, IsTable}
use Rattle.table_definitions.specs.Relabelling.{Relabelling, IsRelabelling, Carries, relabelled_place}
use Rattle.move_definitions.specs.Moves.{Move, IsCore, Facet, facet, old_labels, old_tets, kept, kept_place_after, old_facets}
use Rattle.table_definitions.proofs.ListFacts.{list_all-below}
use Rattle.table_definitions.specs.Moved.{moved_row}
use Rattle.table_definitions.proofs.Ranks.{rank, stays, at_rank, StandsAt, ranks_apart}
use Rattle.table_definitions.proofs.Bijections.{onto, IsDistinct-from_before}
use Rattle.table_definitions.proofs.Moves.{carries_from}
use Rattle.table_definitions.proofs.Faces.{gluing_to, tet_of, perm_of}
use Rattle.move_laws.proofs.Labels.{AreLabels, ascending, on_labels, label_tests}
use Rattle.move_laws.proofs.ListedFacets.{same_some, found_by, is_found, closed_up-rank, stays-count}
use Rattle.move_laws.proofs.Legal.{facet_is, HasNoFault, old_label, facets_apart, old_tets_distinct, length-old_tets, old_tets_below, OldFacet, old_tet_facet}
use Rattle.move_laws.proofs.Covered.{kept-count}
use Rattle.move_definitions.proofs.CoreTests.{core_size}
use Rattle.move_definitions.proofs.StandIns.{find-none}
use Rattle.move_laws.proofs.Renamed.{renamed, given_le}

-- the vertices that those of old facet i are mapped to, by their labels
abbrev pub moved_perm : ℕ → ℕ → List ℕ → List ℕ
moved_perm s i labels = map (λ l. preimage (ascending (i - s)) (renamed s l)) labels

perm_test : ℕ → List ℕ → Bool
perm_test i labels = list_all (λ s. nat_lt i s || is_permutation (moved_perm s i labels)) (below 5)

pub moved_perm_permutes : (s i : ℕ) (labels : List ℕ) → s < 5 → s ≤ i → AreLabels i labels → IsPermutationOfFour (moved_perm s i labels)
moved_perm_permutes s i labels small low h =
    given_le s i (is_permutation (moved_perm s i labels)) (list_all-below (λ s. nat_lt i s || is_permutation (moved_perm s i labels)) 5 (unfold perm_test in on_labels perm_test tests i labels h) s small) low
  where
    tests : label_tests perm_test ≡ true
    tests = unfold perm_test is_permutation renamed preimage in refl

-- retained tetrahedra come first, in order, and old facets after them
abbrev pub facet_place : List Row → Move → ℕ → List ℕ → Gluing
facet_place old m i labels = record { tet = kept old m + (i - length m.core); perm = moved_perm (length m.core) i labels }

abbrev pub place_of : List Row → Move → ℕ → Option Facet → Gluing
place_of old m t None = kept_place_after old m t
place_of old m t (Some f) = facet_place old m f.missing f.labels

abbrev pub place : List Row → Move → ℕ → Gluing
place old m t = place_of old m t (found_by (facet old m) (old_labels m) t)

pub place-kept : (old : List Row) (m : Move) (t : ℕ) → has (old_tets old m) t ≡ false → place old m t ≡ kept_place_after old m t
place-kept old m t h = ap (place_of old m t) (find-none (old_facets old m) t h)

pub place-old : (old : List Row) (m : Move) (i : ℕ) (f : Facet) → IsTable old → HasNoFault old m → IsCore m.core → length m.core ≤ i → i < 5 → facet old m i ≡ Some f → place old m f.tet ≡ facet_place old m i f.labels
place-old old m i f table h c low high e =
    ap (place_of old m f.tet) (is_found (facet old m) (old_labels m) i f (facets_apart old m h c) (old_label (length m.core) i (core_size m.core c).1 low high) e)
    ∙ ap (λ k. facet_place old m k f.labels) (facet_is old m i f table c h.in_range high e).missing

-- the image of a tetrahedron, either retained or an old facet
pub record IsKeptPlace (old : List Row) (m : Move) (t : ℕ) : Type 0 where
  pub stays : has (old_tets old m) t ≡ false
  pub is : place old m t ≡ kept_place_after old m t
  pub small : rank_without (old_tets old m) t < kept old m

pub record IsFacetPlace (old : List Row) (m : Move) (t : ℕ) : Type 0 where
  pub label : ℕ
  pub low : length m.core ≤ label
  pub high : label < 5
  pub facet_of : Facet
  pub found : facet old m label ≡ Some facet_of
  pub tet : facet_of.tet ≡ t
  pub labels : AreLabels label facet_of.labels
  pub is : place old m t ≡ facet_place old m label facet_of.labels

pub stays_true : (xs : List ℕ) (t : ℕ) → has xs t ≡ false → stays xs t ≡ true
stays_true xs t e = ap not e

pub closed_up_small : (old : List Row) (m : Move) (t : ℕ) → IsTable old → HasNoFault old m → IsCore m.core → t < length old → has (old_tets old m) t ≡ false → rank_without (old_tets old m) t < kept old m
closed_up_small old m t table h c l e =
    let s : StandsAt (stays (old_tets old m)) (length old) t = at_rank (stays (old_tets old m)) (length old) t l (stays_true (old_tets old m) t e) in
    let all : rank (stays (old_tets old m)) (length old) + length (old_tets old m) ≡ length old = stays-count (old_tets old m) (length old) (old_tets_distinct old m h c) (old_tets_below old m table h c) in
    omega (arith, s.fewer, closed_up-rank (old_tets old m) t (old_tets_distinct old m h c), length-old_tets old m h c)

pub place_cases : (old : List Row) (m : Move) (t : ℕ) → IsTable old → HasNoFault old m → IsCore m.core → t < length old → IsKeptPlace old m t ⊎ IsFacetPlace old m t
place_cases old m t table h c l = by_test (has (old_tets old m) t) refl
  where
    by_facet : OldFacet old m t → IsFacetPlace old m t
    by_facet o = record {
      label = o.label;
      low = o.low;
      high = o.high;
      facet_of = o.facet_of;
      found = o.is;
      tet = o.tet;
      labels = (facet_is old m o.label o.facet_of table c h.in_range o.high o.is).labels;
      is = ap (place old m) (sym o.tet) ∙ place-old old m o.label o.facet_of table h c o.low o.high o.is;
    }

    by_test : (b : Bool) → has (old_tets old m) t ≡ b → IsKeptPlace old m t ⊎ IsFacetPlace old m t
    by_test false e = inl (record { stays = e; is = place-kept old m t e; small = closed_up_small old m t table h c l e })
    by_test true e = inr (by_facet (old_tet_facet old m t c e))

-- images are in range and different, and permute the vertices
pub place_below : (old : List Row) (m : Move) (t : ℕ) → IsTable old → HasNoFault old m → IsCore m.core → t < length old → (place old m t).tet < length old
place_below old m t table h c l =
    let fits : 5 - length m.core ≤ length old = kept-count old m table h c in
    elim (place_cases old m t table h c l) [
      | inl k ↦ (let e : (place old m t).tet ≡ rank_without (old_tets old m) t = ap tet_of k.is in let small = k.small in omega arith)
      | inr f ↦ (let e : (place old m t).tet ≡ kept old m + (f.label - length m.core) = ap tet_of f.is in let low = f.low in let high = f.high in omega arith)
    ]

pub place_permutes : (old : List Row) (m : Move) (t : ℕ) → IsTable old → HasNoFault old m → IsCore m.core → t < length old → IsPermutationOfFour (place old m t).perm
place_permutes old m t table h c l =
    elim (place_cases old m t table h c l) [
      | inl k ↦ (let Permutes : List ℕ → Type 0 = λ p. IsPermutationOfFour p in subst Permutes (sym (ap perm_of k.is)) (unfold is_permutation in refl))
      | inr f ↦ (let Permutes : List ℕ → Type 0 = λ p. IsPermutationOfFour p in subst Permutes (sym (ap perm_of f.is)) (moved_perm_permutes (length m.core) f.label f.facet_of.labels (core_size m.core c).1 f.low f.labels))
    ]

pub place_apart : (old : List Row) (m : Move) (t u : ℕ) → IsTable old → HasNoFault old m → IsCore m.core → t < length old → u < length old → (place old m t).tet ≡ (place old m u).tet → t ≡ u
place_apart old m t u table h c lt lu e = by_cases (place_cases old m t table h c lt) (place_cases old m u table h c lu)
  where
    by_cases : IsKeptPlace old m t ⊎ IsFacetPlace old m t → IsKeptPlace old m u ⊎ IsFacetPlace old m u → t ≡ u
    by_cases (inl k) (inl k') =
        let d = old_tets_distinct old m h c in
        let ranks : rank (stays (old_tets old m)) t ≡ rank (stays (old_tets old m)) u =
        sym (closed_up-rank (old_tets old m) t d) ∙ sym (ap tet_of k.is) ∙ e ∙ ap tet_of k'.is ∙ closed_up-rank (old_tets old m) u d in
        ranks_apart (stays (old_tets old m)) (length old) t u lt lu (stays_true (old_tets old m) t k.stays) (stays_true (old_tets old m) u k'.stays) ranks
    by_cases (inl k) (inr f) =
        let a : rank_without (old_tets old m) t ≡ kept old m + (f.label - length m.core) = sym (ap tet_of k.is) ∙ e ∙ ap tet_of f.is in
        let small = k.small in
        absurd (omega arith)
    by_cases (inr f) (inl k) =
        let a : kept old m + (f.label - length m.core) ≡ rank_without (old_tets old m) u = sym (ap tet_of f.is) ∙ e ∙ ap tet_of k.is in
        let small = k.small in
        absurd (omega arith)
    by_cases (inr f) (inr g) =
        let a : kept old m + (f.label - length m.core) ≡ kept old m + (g.label - length m.core) = sym (ap tet_of f.is) ∙ e ∙ ap tet_of g.is in
        let low = f.low in
        let low' = g.low in
        let labels : f.label ≡ g.label = omega arith in
        let same : f.facet_of ≡ g.facet_of = same_some (facet old m g.label) f.facet_of g.facet_of (ap (facet old m) (sym labels) ∙ f.found) g.found in
        sym f.tet ∙ ap (λ (x : Facet). x.tet) same ∙ g.tet

-- the relabelling

abbrev pub relabelling : List Row → Move → Relabelling
relabelling old m = record { images = map (λ t. (place old m t).tet) (below (length old)); perms = map (λ t. (place old m t).perm) (below (length old)) }

below_at : (n t d : ℕ) → t < n → get_or (below n) t d ≡ t
below_at n t d l = get_or-range_with_len 0 n t d l ∙ omega arith

length-below : (n : ℕ) → length (below n) ≡ n
length-below n = length-range_with_len 0 n

mapped : {A : Type 0} (f : ℕ → A) (n t : ℕ) (d : A) → t < n → get_or (map f (below n)) t d ≡ f t
mapped f n t d l = get_or-map f (below n) t 0 d (rw (length-below n) l) ∙ ap f (below_at n t 0 l)

pub image_after-placed : (old : List Row) (m : Move) (t : ℕ) → t < length old → relabelled_place (relabelling old m) t ≡ place old m t
image_after-placed old m t l =
    ap (λ u. gluing_to u (slice_index_or (relabelling old m).perms t [])) (mapped (λ t. (place old m t).tet) (length old) t 0 l)
    ∙ ap (gluing_to (place old m t).tet) (mapped (λ t. (place old m t).perm) (length old) t [] l)

pub is_relabelling : (old : List Row) (m : Move) → IsTable old → HasNoFault old m → IsCore m.core → IsRelabelling (length old) (relabelling old m)
is_relabelling old m table h c = record {
  images = onto n images length-images small (IsDistinct-from_before images separate);
  perms = length-map (below n) (λ t. (place old m t).perm) ∙ length-below n;
  permutes = All-from_get_or IsPermutationOfFour (relabelling old m).perms [] (λ k l. (let l' : k < n = omega (arith, length-map (below n) (λ t. (place old m t).perm), length-below n) in rw (mapped (λ t. (place old m t).perm) n k [] l') (place_permutes old m k table h c l')));
}
  where
    n : ℕ
    n = length old

    images : List ℕ
    images = map (λ t. (place old m t).tet) (below n)

    length-images : length images ≡ n
    length-images = length-map (below n) (λ t. (place old m t).tet) ∙ length-below n

    small : (k : ℕ) → k < n → get_or images k 0 < n
    small k l = rw (mapped (λ t. (place old m t).tet) n k 0 l) (place_below old m k table h c l)

    separate : (i j : ℕ) → i < j → j < length images → get_or images i 0 ≢ get_or images j 0
    separate i j l k e =
        let lj : j < n = omega (arith, length-images) in
        let li : i < n = omega arith in
        let same : i ≡ j = place_apart old m i j table h c li lj (sym (mapped (λ t. (place old m t).tet) n i 0 li) ∙ e ∙ mapped (λ t. (place old m t).tet) n j 0 lj) in
        absurd (omega arith)

-- the relabelled table

abbrev pub old_numbers : List Row → Move → List ℕ
old_numbers old m = map (λ u. position_or_len (λ v. v == u) (relabelling old m).images) (below (length old))

abbrev pub led_back : List Row → Move → List Row
led_back old m = map (moved_row old (relabelling old m)) (old_numbers old m)

pub carries_back : (old : List Row) (m : Move) → IsTable old → HasNoFault old m → IsCore m.core → Carries (relabelling old m) old (led_back old m)
carries_back old m table h c = carries_from old (led_back old m) (relabelling old m) (old_numbers old m) (is_relabelling old m table h c) (length-map (old_numbers old m) (moved_row old (relabelling old m)) ∙ length-old_numbers) rows found
  where
    n : ℕ
    n = length old

    images : List ℕ
    images = (relabelling old m).images

    length-old_numbers : length (old_numbers old m) ≡ n
    length-old_numbers = length-map (below n) (λ u. position_or_len (λ v. v == u) images) ∙ length-below n

    length-images : length images ≡ n
    length-images = length-map (below n) (λ t. (place old m t).tet) ∙ length-below n

    rows : (k : ℕ) → k < length old → get_or (led_back old m) k [] ≡ moved_row old (relabelling old m) (get_or (old_numbers old m) k 0)
    rows k l = get_or-map (moved_row old (relabelling old m)) (old_numbers old m) k 0 [] (rw length-old_numbers l)

    other : (t : ℕ) → t < n → (k : ℕ) → k < t → (get_or images k 0 == slice_index images t) ≡ false
    other t l k less =
        ne_eqb (get_or images k 0) (slice_index images t)
        (λ e. (let lk : k < n = omega arith in
        let same : k ≡ t = place_apart old m k t table h c lk l (sym (mapped (λ t. (place old m t).tet) n k 0 lk) ∙ e ∙ mapped (λ t. (place old m t).tet) n t 0 l) in
        absurd (omega arith)))

    found : (t : ℕ) → t < length old → slice_index (old_numbers old m) (slice_index images t) ≡ t
    found t l =
        let at : slice_index images t ≡ (place old m t).tet = mapped (λ t. (place old m t).tet) n t 0 l in
        let small : slice_index images t < n = rw at (place_below old m t table h c l) in
        mapped (λ u. position_or_len (λ v. v == u) images) n (slice_index images t) 0 small
        ∙ position_or_len_is (λ v. v == slice_index images t) images t 0 (rw length-images (let l' : t < n = l in omega arith)) (λ k less. other t l k less) (λ _. eq-eqb (get_or images t 0) (slice_index images t) refl)
