-- Rays with a single column: no third ray lies in the union of one of them and another ray.
use Rattle.std.proofs.Common.{◌≡◌, ◌≢◌, ℕ, zero, suc, ◌+◌, ◌<◌, ◌≤◌, ◌⊎◌, inl, inr, ⊎_elim, Bool, true, cond, List, [], length, slice_index, refl, sym, ◌∙◌, ap, arith}
use Rattle.std.specs.List.{count_by, range_with_len}
use Rattle.std.proofs.lemmas.Bool.{cases_eq, cases_lt, lt-ltb}
use Rattle.cone_definitions.specs.Vectors.{IsInside, IsInsideUnion, ray_at}
use Rattle.cone_definitions.specs.Rows.{Row, IsPrimitiveExtreme}
use Rattle.cone_definitions.specs.Surfaces.{Clash}
use Rattle.cone_definitions.specs.Elimination.{Step}
use Rattle.cone_definitions.proofs.OneRay.{same_ray}
use Rattle.cone_definitions.proofs.Unions.{ray_primitive}
use Rattle.cone_definitions.proofs.Entries.{zero_or_nonzero, nonzero_before}
use Rattle.support_bits.specs.Columns.{support_of}
use Rattle.cone_laws.specs.Unions.{is_in_union, union_size}
use Rattle.cone_laws.proofs.Counts.{count_cons}
use Rattle.support_table.specs.Counts.{columns_in_either}
use Rattle.support_table.proofs.BitCounts.{columns_of_vectors}
use Rattle.ray_steps.specs.Unions.{HasSingle, IsSingle, MakeSinglesPairs}
use Rattle.cone_definitions.specs.Unordered.{HasSurfaces}
use Rattle.basic_lemmas.proofs.Lists.{one_place}

-- a ray inside the union of two rays, of which one has a single column, is one of the two
no_third_beside_single : (columns : ℕ) (rows : List Row) (u w v : List ℕ) → IsPrimitiveExtreme columns rows u → IsPrimitiveExtreme columns rows w → IsPrimitiveExtreme columns rows v →
    IsSingle u → IsInsideUnion v u w → (v ≡ u) ⊎ (v ≡ w)
no_third_beside_single columns rows u w v hu hw hv single inside = ⊎_elim
    (λ gone. inr (sym (same_ray columns rows w v hw.extreme hw.primitive hv.extreme.solution hv.extreme.nonzero hv.primitive (in_other gone))))
    (λ some. inl (same_ray columns rows v u hv.extreme hv.primitive hu.extreme.solution hu.extreme.nonzero hu.primitive (in_it some)))
    (cases_eq (slice_index v single.0) 0)
  where
    in_other : slice_index v single.0 ≡ 0 → IsInside v w
    in_other gone j at_w = ⊎_elim
        (λ same. ap (slice_index v) same ∙ gone)
        (λ other. inside j (single.1 j other) at_w)
        (cases_eq j single.0)

    in_it : slice_index v single.0 ≢ 0 → IsInside u v
    in_it some j at_v = single.1 j (λ same. some (ap (slice_index v) (sym same) ∙ at_v))

module _ (columns : ℕ) (rows : List Row) (pairs : List Clash) (rays : List (List ℕ)) (h : HasSurfaces columns rows pairs rays) where
  -- a step after these rows, for any row
  step : Step
  step = record { columns = columns; pairs = pairs; before = rows; row = [] }

  primitive_at : (k : ℕ) → k < length rays → IsPrimitiveExtreme columns rows (ray_at rays k)
  unfolding step
  primitive_at k within = ray_primitive step (ray_at rays k) (h.vertex_surfaces k [] within)

  third_of_two : (i j k : ℕ) → i < length rays → j < length rays → k < length rays → IsSingle (ray_at rays i) ⊎ IsSingle (ray_at rays j) →
      IsInsideUnion (ray_at rays k) (ray_at rays i) (ray_at rays j) → (k ≡ i) ⊎ (k ≡ j)
  third_of_two i j k i_in j_in k_in (inl single) inside = ⊎_elim (λ e. inl (one_place rays h.separate k i [] k_in i_in e)) (λ e. inr (one_place rays h.separate k j [] k_in j_in e))
      (no_third_beside_single columns rows (ray_at rays i) (ray_at rays j) (ray_at rays k) (primitive_at i i_in) (primitive_at j j_in) (primitive_at k k_in) single inside)
  third_of_two i j k i_in j_in k_in (inr single) inside = ⊎_elim (λ e. inr (one_place rays h.separate k j [] k_in j_in e)) (λ e. inl (one_place rays h.separate k i [] k_in i_in e))
      (no_third_beside_single columns rows (ray_at rays j) (ray_at rays i) (ray_at rays k) (primitive_at j j_in) (primitive_at i i_in) (primitive_at k k_in) single (λ c at_w at_u. inside c at_u at_w))

  pub single_pairs : MakeSinglesPairs pairs rays
  single_pairs i j i_in j_in single admissible = record { no_clash = admissible; no_third = λ k k_in inside. third_of_two i j k i_in j_in k_in single inside }

-- the count is at least 1 if a number has the property, and at least 2 if two have it
count_one : (p : ℕ → Bool) (a n j : ℕ) → a ≤ j → j < a + n → p j ≡ true → 1 ≤ count_by p (range_with_len a n)
count_one p a zero j low less is = absurd (omega arith)
count_one p a (suc n) j low less is = let c = count_cons p a (range_with_len (a + 1) n) in ⊎_elim
    (λ same. let s : cond {A = ℕ} (p a) 1 0 ≡ 1 = ap (λ b. cond {A = ℕ} b 1 0) (ap p same ∙ is) in omega (arith, s, c))
    (λ other. omega (arith, c, count_one p (a + 1) n j (omega (arith, other)) (omega arith) is))
    (cases_eq a j)

count_two : (p : ℕ → Bool) (a n j k : ℕ) → a ≤ j → j < k → k < a + n → p j ≡ true → p k ≡ true → 2 ≤ count_by p (range_with_len a n)
count_two p a zero j k low less within first second = absurd (omega arith)
count_two p a (suc n) j k low less within first second = let c = count_cons p a (range_with_len (a + 1) n) in ⊎_elim
    (λ same. let s : cond {A = ℕ} (p a) 1 0 ≡ 1 = ap (λ b. cond {A = ℕ} b 1 0) (ap p same ∙ first) in
    omega (arith, s, c, count_one p (a + 1) n k (omega (arith, same)) (omega arith) second))
    (λ other. omega (arith, c, count_two p (a + 1) n j k (omega (arith, other)) less (omega arith) first second))
    (cases_eq a j)

nonzero_is_in : (x : List ℕ) (j : ℕ) → slice_index x j ≢ 0 → is_in_union x x j ≡ true
nonzero_is_in x j some = rw (lt-ltb 0 (slice_index x j) (omega (arith, some))) refl

-- a vector with at most one column in its support
pub single_from_count : (x : List ℕ) (a : List Bool) → a ≡ support_of x → columns_in_either a a ≤ 1 → IsSingle x
single_from_count x a is limited = ⊎_elim
    (λ none. (0, λ other _. none other))
    (λ some. (some.0, λ other differs. ⊎_elim (λ e. e) (λ again. absurd (two some.0 other differs some.1 again)) (cases_eq (slice_index x other) 0)))
    (zero_or_nonzero x)
  where
    count : union_size (length x) x x ≤ 1
    count = omega (arith, columns_of_vectors a a x x is is, limited)

    two : (j k : ℕ) → k ≢ j → slice_index x j ≢ 0 → slice_index x k ≢ 0 → ⊥
    two j k differs first second =
        let j_in = nonzero_before x (length x) j refl first in
        let k_in = nonzero_before x (length x) k refl second in ⊎_elim
        (λ less. let c = count_two (is_in_union x x) 0 (length x) j k (omega arith) less (omega (arith, k_in)) (nonzero_is_in x j first) (nonzero_is_in x k second) in omega (arith, c, count))
        (λ more. let c = count_two (is_in_union x x) 0 (length x) k j (omega arith) (omega (arith, more, differs)) (omega (arith, j_in)) (nonzero_is_in x k second) (nonzero_is_in x j first) in omega (arith, c, count))
        (cases_lt j k)

pub single_of_two : (u w : List ℕ) (a b : List Bool) → a ≡ support_of u → b ≡ support_of w → HasSingle a b → IsSingle u ⊎ IsSingle w
single_of_two u w a b a_is b_is (inl limited) = inl (single_from_count u a a_is limited)
single_of_two u w a b a_is b_is (inr limited) = inr (single_from_count w b b_is limited)
