-- Relabellings, by the image of each tetrahedron.
use Rattle.std.proofs.Common.{◌≡◌, ℕ, ◌<◌, false, List, [], length, map, get_or, refl, sym, ap, ◌∙◌, subst, arith}
use Rattle.std.specs.Prelude.{◌==◌, slice_index}
use Rattle.std.proofs.lemmas.Bool.{eqb-true, eq-eqb}
use Rattle.std.proofs.lemmas.List.{ext_get_or}
use Rattle.std.proofs.lemmas.List.Elements.{All-from_get_or}
use Rattle.std.proofs.lemmas.List.FromFn.{get_or-map-range_with_len, length-map-range_with_len}
use Rattle.std.proofs.lemmas.List.Sums.{position_or_len_is}
use Rattle.basic_lemmas.proofs.Truths.{by_bool}
use Rattle.table_definitions.specs.Lists.{below}
use Rattle.table_definitions.specs.Permutation.{IsPermutationOfFour}
use Rattle.table_definitions.specs.Table.{Gluing}
use Rattle.table_definitions.specs.Relabelling.{Relabelling, IsRelabelling, relabelled_place}
use Rattle.signature_laws.specs.Between.{made, place_of}
use Rattle.table_definitions.proofs.Bijections.{onto, IsDistinct-from_before}
use Rattle.table_definitions.proofs.Carried.{length-images, images_apart}

-- relabellings with the same image of each tetrahedron are equal
pub same_relabelling : (n : ℕ) (by other : Relabelling) → IsRelabelling n by → IsRelabelling n other → ((t : ℕ) → t < n → relabelled_place by t ≡ relabelled_place other t) → by ≡ other
same_relabelling n by other h k same =
    let long = length-images n by h in
    let long' = length-images n other k in
    let images : by.images ≡ other.images = ext_get_or 0 by.images other.images (long ∙ sym long') (λ t l. ap (λ (g : Gluing). g.tet) (same t (omega (arith, long)))) in
    let wide = h.perms in
    let perms : by.perms ≡ other.perms = ext_get_or [] by.perms other.perms (h.perms ∙ sym k.perms) (λ t l. ap (λ (g : Gluing). g.perm) (same t (omega (arith, wide)))) in
    λ i. record { images = images i; perms = perms i }

-- the relabelling that maps each t to f t does so
pub made_stands : (n : ℕ) (f : ℕ → Gluing) (t : ℕ) → t < n → relabelled_place (made n f) t ≡ f t
unfolding made
made_stands n f t l =
    let a : get_or (map (λ t. (f t).tet) (below n)) t 0 ≡ (f t).tet = get_or-map-range_with_len (λ t. (f t).tet) 0 n t t 0 l (omega arith) in
    let b : get_or (map (λ t. (f t).perm) (below n)) t [] ≡ (f t).perm = get_or-map-range_with_len (λ t. (f t).perm) 0 n t t [] l (omega arith) in
    λ i. record { tet = a i; perm = b i }

-- the conditions on f under which the map of each t to f t is a relabelling
pub record HasFacetImage (n : ℕ) (f : ℕ → Gluing) : Type 0 where
  pub in_range : (t : ℕ) → t < n → (f t).tet < n
  pub separate : (t u : ℕ) → t < n → u < n → (f t).tet ≡ (f u).tet → t ≡ u
  pub permutes : (t : ℕ) → t < n → IsPermutationOfFour (f t).perm

pub made_relabelling : (n : ℕ) (f : ℕ → Gluing) → HasFacetImage n f → IsRelabelling n (made n f)
unfolding made
made_relabelling n f h = record {
  images = onto n images long (λ k l. let e = at k l in let r = h.in_range k l in omega (arith, e, r)) (IsDistinct-from_before images (λ i j l m e. absurd (twice i j l m e)));
  perms = length-map-range_with_len (λ t. (f t).perm) 0 n;
  permutes = All-from_get_or IsPermutationOfFour perms [] (λ k l. permuted k (let e = length-map-range_with_len (λ t. (f t).perm) 0 n in omega (arith, e)));
}
  where
    images : List ℕ
    images = map (λ t. (f t).tet) (below n)

    perms : List (List ℕ)
    perms = map (λ t. (f t).perm) (below n)

    long : length images ≡ n
    long = length-map-range_with_len (λ t. (f t).tet) 0 n

    at : (k : ℕ) → k < n → get_or images k 0 ≡ (f k).tet
    at k l = get_or-map-range_with_len (λ t. (f t).tet) 0 n k k 0 l (omega arith)

    twice : (i j : ℕ) → i < j → j < length images → get_or images i 0 ≡ get_or images j 0 → ⊥
    twice i j l m e =
        let lj : j < n = omega (arith, long) in
        let li : i < n = omega arith in
        let same : i ≡ j = h.separate i j li lj (sym (at i li) ∙ e ∙ at j lj) in
        omega arith

    permuted : (k : ℕ) → k < n → IsPermutationOfFour (get_or perms k [])
    permuted k l = subst IsPermutationOfFour (sym (get_or-map-range_with_len (λ t. (f t).perm) 0 n k k [] l (omega arith))) (h.permutes k l)

-- the tetrahedron with a given image
pub place_of-image : (n : ℕ) (by : Relabelling) → IsRelabelling n by → (t : ℕ) → t < n → place_of by (slice_index by.images t) ≡ t
unfolding place_of
place_of-image n by h t l =
    let long = length-images n by h in
    position_or_len_is (λ v. v == slice_index by.images t) by.images t 0 (omega (arith, long)) (λ k m. other k (omega arith) (omega arith)) (λ m. eq-eqb (slice_index by.images t) (slice_index by.images t) refl)
  where
    other : (k : ℕ) → k < n → k < t → (slice_index by.images k == slice_index by.images t) ≡ false
    other k m before = by_bool (slice_index by.images k == slice_index by.images t)
        (λ e. let same : k ≡ t = images_apart n by h k t m l (eqb-true (slice_index by.images k) (slice_index by.images t) e) in absurd (omega arith))
        (λ e. e)
