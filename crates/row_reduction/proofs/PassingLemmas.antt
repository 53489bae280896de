-- A sum that exceeds the greatest coefficient.
use Rattle.std.proofs.Common.{◌≡◌, ◌<◌, ◌≤◌, inl, inr, ℤ, ◌+ℤ◌, ◌*ℤ◌, subst, sym, arith, w32, FitsSigned}
use Rattle.std.specs.Prelude.{unsigned_abs, SomeIff, Option, Some, None, IsNone}
use Rattle.std.proofs.lemmas.Bool.{cases_lt, false≢true}
use Rattle.std.proofs.lemmas.Int.{ints, fits_signed_from_abs}
use Rattle.row_reduction.specs.Passing.{PassesSum}
use Rattle.row_reduction.proofs.MergeLemmas.{coefficient_sum}

past_32_bits : (s : ℤ) → (FitsSigned w32 s → ⊥) → 2000000 < unsigned_abs s
past_32_bits s h = elim (cases_lt 2000000 (unsigned_abs s)) [
  | inl l ↦ l
  | inr l ↦ absurd (h (fits_signed_from_abs w32 s (omega (arith, l))))
]

passes_still : (product number : ℤ) → 2000000 < unsigned_abs product → unsigned_abs number ≤ 1000000 → 1000000 < unsigned_abs (product +ℤ number)
passes_still product number h k = omega (arith, ints, h, k)

pub product_passes : (number factor other : ℤ) → (FitsSigned w32 (factor *ℤ other) → ⊥) → unsigned_abs number ≤ 1000000 → PassesSum number factor other
product_passes number factor other h k = record {
  sum = (factor *ℤ other) +ℤ number;
  is_sum = coefficient_sum number factor other;
  passes = passes_still (factor *ℤ other) number (past_32_bits (factor *ℤ other) h) k;
}

pub sum_passes : (number factor other product : ℤ) → product ≡ factor *ℤ other → (FitsSigned w32 (product +ℤ number) → ⊥) → PassesSum number factor other
sum_passes number factor other product e h = record {
  sum = (factor *ℤ other) +ℤ number;
  is_sum = coefficient_sum number factor other;
  passes = subst (λ p. 1000000 < unsigned_abs (p +ℤ number)) e (let l = past_32_bits (product +ℤ number) h in omega (arith, l));
}

-- the second operation has no result
pub none_passes : (number factor other product : ℤ) (sum : Option ℤ) → product ≡ factor *ℤ other → SomeIff sum (FitsSigned w32 (product +ℤ number)) (product +ℤ number) → IsNone sum →
    PassesSum number factor other
none_passes number factor other product None e h none = sum_passes number factor other product e h
none_passes number factor other product (Some s) e h none = absurd (false≢true (sym none))
