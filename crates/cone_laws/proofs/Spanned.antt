-- If the union of two rays contains no third ray, each solution inside it has a positive multiple that is a sum of
-- multiples of the two.
use Rattle.std.proofs.Common.{◌≡◌, ℕ, zero, suc, ◌+◌, ◌*◌, ◌<◌, ◌≤◌, ◌⊎◌, inl, inr, List, slice_index, subst, ap, arith}
use Rattle.std.proofs.lemmas.Bool.{cases_eq}
use Rattle.cone_definitions.specs.Vectors.{IsInsideUnion}
use Rattle.cone_definitions.specs.Rows.{Row, IsSolution}
use Rattle.cone_definitions.proofs.Entries.{zero_or_nonzero, support_size, size-smaller}
use Rattle.cone_definitions.proofs.Solutions.{Rest, rest_of, Rest-solution, mul_cancel}
use Rattle.cone_definitions.proofs.Rays.{ray_inside}
use Rattle.cone_laws.specs.Laws.{HasNoThird}

-- m times x is c times u and d times w
pub record IsSpanned (u w x : List ℕ) : Type 0 where
  pub m : ℕ
  pub c : ℕ
  pub d : ℕ
  pub some_m : 1 ≤ m
  pub sum : (j : ℕ) → m * slice_index x j ≡ c * slice_index u j + d * slice_index w j

some_product : (m n : ℕ) → 1 ≤ m → 1 ≤ n → 1 ≤ m * n
some_product m n a b = elim (cases_eq (m * n) 0) [
  | inl z ↦ let e : n ≡ 0 = mul_cancel m n 0 a (omega arith) in absurd (omega arith)
  | inr ne ↦ omega arith
]

first_step : (n m k c d x v r u w : ℕ) → m * x ≡ k * v + 1 * r → n * r ≡ c * u + d * w → v ≡ u → n * m * x ≡ (n * k + c) * u + d * w
first_step n m k c d x v r u w e f g = let h : m * x ≡ k * u + 1 * r = subst (λ a. m * x ≡ k * a + 1 * r) g e in omega (arith, ap (λ a. n * a) h)

second_step : (n m k c d x v r u w : ℕ) → m * x ≡ k * v + 1 * r → n * r ≡ c * u + d * w → v ≡ w → n * m * x ≡ c * u + (n * k + d) * w
second_step n m k c d x v r u w e f g = let h : m * x ≡ k * w + 1 * r = subst (λ a. m * x ≡ k * a + 1 * r) g e in omega (arith, ap (λ a. n * a) h)

module _ (columns : ℕ) (rows : List Row) (u w : List ℕ) (no_third : HasNoThird columns rows u w) where
  more_spanned : (x v : List ℕ) (r : Rest columns x v) → (v ≡ u) ⊎ (v ≡ w) → IsSpanned u w r.rest → IsSpanned u w x
  more_spanned x v r (inl e) s = record {
    m = s.m * r.m;
    c = s.m * r.c + s.c;
    d = s.d;
    some_m = some_product s.m r.m s.some_m r.some_m;
    sum = λ j. first_step s.m r.m r.c s.c s.d (slice_index x j) (slice_index v j) (slice_index r.rest j) (slice_index u j) (slice_index w j) (r.splits j) (s.sum j) (ap (λ y. slice_index y j) e);
  }
  more_spanned x v r (inr e) s = record {
    m = s.m * r.m;
    c = s.c;
    d = s.m * r.c + s.d;
    some_m = some_product s.m r.m s.some_m r.some_m;
    sum = λ j. second_step s.m r.m r.c s.c s.d (slice_index x j) (slice_index v j) (slice_index r.rest j) (slice_index u j) (slice_index w j) (r.splits j) (s.sum j) (ap (λ y. slice_index y j) e);
  }

  zero_spanned : (x : List ℕ) → ((j : ℕ) → slice_index x j ≡ 0) → IsSpanned u w x
  zero_spanned x z = record { m = 1; c = 0; d = 0; some_m = omega arith; sum = λ j. omega (arith, z j) }

  spanned_below : (fuel : ℕ) (x : List ℕ) → support_size columns x < fuel → IsSolution columns rows x → IsInsideUnion x u w → IsSpanned u w x
  spanned_below zero x size sol inside = absurd (omega arith)
  spanned_below (suc fuel) x size sol inside = elim (zero_or_nonzero x) [
    | inl z ↦ zero_spanned x z
    | inr some ↦ let v = ray_inside columns rows x sol some in
        let r = rest_of columns x v.0 sol.width v.1.extreme.solution.width v.2 v.1.extreme.nonzero in
        let s : support_size columns r.rest < support_size columns x = size-smaller columns r.rest x sol.width r.smaller in
        more_spanned x v.0 r (no_third v.0 v.1 (λ j a b. v.2 j (inside j a b)))
        (spanned_below fuel r.rest (omega arith) (Rest-solution columns rows x v.0 r sol v.1.extreme.solution) (λ j a b. r.smaller.inside j (inside j a b)))
  ]

  pub spanned : (x : List ℕ) → IsSolution columns rows x → IsInsideUnion x u w → IsSpanned u w x
  spanned x sol inside = spanned_below (suc (support_size columns x)) x (omega arith) sol inside
