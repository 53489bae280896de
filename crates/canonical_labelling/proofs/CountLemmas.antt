-- A relabelling preserves the number of boundary faces.
use Rattle.std.proofs.Common.{◌≡◌, ℕ, zero, suc, ◌+◌, ◌*◌, ◌/◌, ◌%◌, ◌<◌, ◌≤◌, Bool, true, false, List, [], ◌∷◌, ◌++◌, length, map, get_or, Option, Some, None, refl, sym, ap, ◌∙◌, subst, arith}
use Rattle.std.specs.Prelude.{◌≢◌, count_by, option_map, slice_index, is_none, IsPermutation}
use Rattle.std.specs.List.{slice_index_or}
use Rattle.std.specs.Int.{from_bool}
use Rattle.std.proofs.lemmas.List.Sums.{sum_by_push}
use Rattle.std.proofs.lemmas.List.Sorted.{sum_by-IsPermutation}
use Rattle.std.proofs.lemmas.List.FromFn.{get_or-map-range_with_len, length-map-range_with_len, map-range_with_len_more}
use Rattle.basic_lemmas.proofs.Truths.{one_if}
use Rattle.table_definitions.specs.Lists.{below}
use Rattle.table_definitions.specs.Permutation.{IsPermutationOfFour, image, preimage}
use Rattle.table_definitions.specs.Table.{Gluing, Row, Face, face_number, glue}
use Rattle.table_definitions.specs.Relabelling.{Relabelling, relabelled_place, face_under, gluing_under}
use Rattle.table_definitions.specs.Places.{face_of, is_boundary}
use Rattle.table_definitions.proofs.Bijections.{onto, IsDistinct-from_before, below-push}
use Rattle.table_definitions.proofs.Permutations.{image_below, preimage-image}
use Rattle.table_definitions.proofs.Carried.{image_in_range, perm_permutes, images_apart}
use Rattle.signature_definitions.specs.Labellings.{Relabels}
use Rattle.canonical_labelling.specs.Counts.{boundary_count}

-- a count below n + 1 is one below n with the test of n
pub count_below_more : (p : ℕ → Bool) (n : ℕ) → count_by p (below (n + 1)) ≡ count_by p (below n) + one_if (p n)
count_below_more p n = let e : n + 1 ≡ suc n = omega arith in ap (λ m. count_by p (below m)) e ∙ ap (count_by p) (sym (below-push n)) ∙ sum_by_push (λ k. one_if (p k)) (below n) n

pub counted_on : (p : ℕ → Bool) (n count more : ℕ) (b : Bool) → count ≡ count_by p (below n) → more ≡ from_bool b → b ≡ p n → count + more ≡ count_by p (below (n + 1))
counted_on p n count more b e m t = ap (λ c. c + more) e ∙ ap (λ c. count_by p (below n) + c) (m ∙ byte b ∙ ap one_if t) ∙ sym (count_below_more p n)
  where
    byte : (b : Bool) → from_bool b ≡ one_if b
    byte true = refl
    byte false = refl

pub counted_few : (count more place : ℕ) (b : Bool) → count ≤ place → more ≡ from_bool b → count + more ≤ place + 1
counted_few count more place true l e = let z : more ≡ 1 = e in omega (arith, z)
counted_few count more place false l e = let z : more ≡ 0 = e in omega (arith, z)

-- equal tests have equal counts, and so have tests of the values of a map
counts_alike : (p q : ℕ → Bool) (f : ℕ → ℕ) (n : ℕ) → ((k : ℕ) → k < n → p (f k) ≡ q k) → count_by p (map f (below n)) ≡ count_by q (below n)
counts_alike p q f zero h = refl
counts_alike p q f (suc n) h =
    let e : n + 1 ≡ suc n = omega arith in
    let more : map f (below (n + 1)) ≡ map f (below n) ++ f n ∷ [] = map-range_with_len_more f 0 n n (omega arith) in
    let first : count_by p (map f (below (n + 1))) ≡ count_by p (map f (below n)) + one_if (p (f n)) = ap (count_by p) more ∙ sum_by_push (λ k. one_if (p k)) (map f (below n)) (f n) in
    let rest : count_by p (map f (below n)) ≡ count_by q (below n) = counts_alike p q f n (λ k l. h k (omega arith)) in
    let last = ap one_if (h n (omega arith)) in
    let second = count_below_more q n in
    let both : count_by p (map f (below (n + 1))) ≡ count_by q (below (n + 1)) = omega (arith, first, rest, last, second) in
    subst (λ m. count_by p (map f (below m)) ≡ count_by q (below m)) e both

module _ (rows new : List Row) (by : Relabelling) (r : Relabels rows new by) where
  abbrev n : ℕ
  n = length rows

  -- the index of the face to which the relabelling maps the face of index k
  abbrev face_there : ℕ → ℕ
  face_there k = face_number (face_under (relabelled_place by (k / 4)) (face_of k))

  perm_at : (k : ℕ) → k < 4 * n → IsPermutationOfFour (slice_index_or by.perms (k / 4) [])
  perm_at k l = perm_permutes n by r.0 (k / 4) (omega arith)

  small : (k : ℕ) → k < 4 * n → image (slice_index_or by.perms (k / 4) []) (k % 4) < 4
  small k l = image_below (slice_index_or by.perms (k / 4) []) (perm_at k l) (k % 4) (omega arith)

  inside : (k : ℕ) → k < 4 * n → face_there k < 4 * n
  inside k l = let a = image_in_range n by r.0 (k / 4) (omega arith) in let b = small k l in omega (arith, a, b)

  separate : (j k : ℕ) → j < 4 * n → k < 4 * n → face_there j ≡ face_there k → j ≡ k
  separate j k l m e =
      let a = small j l in
      let b = small k m in
      let tets : slice_index by.images (j / 4) ≡ slice_index by.images (k / 4) = omega (arith, e, a, b) in
      let faces : image (slice_index_or by.perms (j / 4) []) (j % 4) ≡ image (slice_index_or by.perms (k / 4) []) (k % 4) = omega (arith, e, a, b) in
      let tet : j / 4 ≡ k / 4 = images_apart n by r.0 (j / 4) (k / 4) (omega arith) (omega arith) tets in
      let here : image (slice_index_or by.perms (k / 4) []) (j % 4) ≡ image (slice_index_or by.perms (k / 4) []) (k % 4) =
      ap (λ t. image (slice_index_or by.perms t []) (j % 4)) (sym tet) ∙ faces in
      let p : List ℕ = slice_index_or by.perms (k / 4) [] in
      let face : j % 4 ≡ k % 4 = sym (preimage-image p (perm_at k m) (j % 4) (omega arith)) ∙ ap (preimage p) here ∙ preimage-image p (perm_at k m) (k % 4) (omega arith) in
      omega (arith, tet, face)

  permuted : IsPermutation (map face_there (below (4 * n))) (below (4 * n))
  permuted = onto (4 * n) (map face_there (below (4 * n))) long (λ k l. let e = at k l in let i = inside k l in omega (arith, e, i)) (IsDistinct-from_before (map face_there (below (4 * n))) twice)
    where
      long : length (map face_there (below (4 * n))) ≡ 4 * n
      long = length-map-range_with_len face_there 0 (4 * n)

      at : (k : ℕ) → k < 4 * n → get_or (map face_there (below (4 * n))) k 0 ≡ face_there k
      at k l = get_or-map-range_with_len face_there 0 (4 * n) k k 0 l (omega arith)

      twice : (i j : ℕ) → i < j → j < length (map face_there (below (4 * n))) → get_or (map face_there (below (4 * n))) i 0 ≢ get_or (map face_there (below (4 * n))) j 0
      twice i j l m e =
          let lj : j < 4 * n = omega (arith, m, long) in
          let li : i < 4 * n = omega (arith, l, lj) in
          let same : i ≡ j = separate i j li lj (sym (at i li) ∙ e ∙ at j lj) in
          omega (arith, same, l)

  -- the face of index k is a boundary face if and only if its image is
  alike : (k : ℕ) → k < 4 * n → is_boundary new (face_of (face_there k)) ≡ is_boundary rows (face_of k)
  alike k l =
      let y : Face = face_under (relabelled_place by (k / 4)) (face_of k) in
      let b = small k l in
      let tet : face_there k / 4 ≡ y.tet = omega (arith, b) in
      let face : face_there k % 4 ≡ y.face = omega (arith, b) in
      let is : face_of (face_there k) ≡ y = λ i. record { tet = tet i; face = face i } in
      ap (is_boundary new) is ∙ ap is_none (r.1.glued (face_of k) (omega arith) (omega arith)) ∙ none_of (glue rows (face_of k))
    where
      none_of : (o : Option Gluing) → is_none (option_map (λ g. gluing_under (relabelled_place by (k / 4)) (relabelled_place by g.tet) g) o) ≡ is_none o
      none_of None = refl
      none_of (Some g) = refl

  pub same_count : boundary_count rows ≡ boundary_count new
  unfolding boundary_count
  same_count =
      let long = r.1.same_length in
      let p : ℕ → Bool = λ k. is_boundary new (face_of k) in
      let q : ℕ → Bool = λ k. is_boundary rows (face_of k) in
      sym (counts_alike p q face_there (4 * n) alike) ∙ sym (sum_by-IsPermutation (λ k. one_if (p k)) (map face_there (below (4 * n))) (below (4 * n)) permuted)
      ∙ ap (λ m. count_by p (below (4 * m))) (sym long)
