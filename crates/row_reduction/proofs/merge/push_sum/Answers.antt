-- The sum is appended as it is.
use Rattle.std.proofs.Common.{rules, ◌≡◌, ◌++◌, ◌∷◌, [], ap, ◌∙◌, w32, of_z, FitsSigned, ℤ, pos, negsuc, zero, suc, ◌≤◌, arith, refl, inr}
use Rattle.std.specs.Prelude.{unsigned_abs}
use Rattle.std.proofs.lemmas.Int.{to_z-of_z}
use Rattle.row_reduction.specs.Merging.{IsCoefficientSum}
use Rattle.row_reduction.proofs.merge.push_sum.Goals as goal

some_magnitude : (z : ℤ) → (of_z w32 z ≡ 0 → ⊥) → 1 ≤ unsigned_abs z
some_magnitude (pos zero) h = absurd (h refl)
some_magnitude (pos (suc n)) h = omega arith
some_magnitude (negsuc n) h = omega arith

pub returns-in_ok-push-in-Some-clause-appends : goal.returns-in_ok-push-in-Some-clause-appends
returns-in_ok-push-in-Some-clause-appends c =
    let f : FitsSigned w32 c.in-Some.sum = search rules in
    let back = to_z-of_z w32 c.in-Some.sum f in
    let n = c.ranges.number in
    let p = c.ranges.factor in
    let q = c.ranges.other in
    let s : IsCoefficientSum c.args.number c.args.factor c.args.other c.in-Some.sum = simp to_z-of_z at c.in-Some.ensures.sum in
    record {
      sum = c.in-Some.sum;
      is_sum = s;
      appended = inr (
        c.in_ok-push-in-Some.ensures.ok ∙ ap (λ z. c.args.terms.now.items ++ (c.args.column, z) ∷ []) back,
        some_magnitude c.in-Some.sum c.if-sum-ne0.true,
        (let v = c.unsigned_abs.ensures.value ∙ ap unsigned_abs back in let b = c.if-unsigned_abs-le-MAX_COEFFICIENT.true in omega (arith, v, b)),
      );
    }
