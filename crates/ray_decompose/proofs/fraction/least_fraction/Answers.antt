use Rattle.std.proofs.Common.{◌≢◌, ℕ, ◌*◌, ◌<◌, ◌≤◌, List, length, slice_index, arith}
use Rattle.std.proofs.Math.Nat.{pos_of_dvd_of_pos}
use Rattle.std.specs.Int.{IsGcd}
use Rattle.cone_definitions.proofs.Ratio.{IsLeastRatio}
use Rattle.cone_arithmetic.proofs.EntryLemmas.{quotient_positive}
use Rattle.sum_laws.proofs.Fractions.{fraction_at}
use Rattle.ray_decompose.specs.Fractions.{IsLeastColumn}
use Rattle.ray_decompose.proofs.fraction.least_fraction.Goals as goal

positive : (a b g : ℕ) → IsGcd a b g → b ≢ 0 → 0 < g
positive a b g d some = pos_of_dvd_of_pos d.1 (omega arith)

least_ratio : (r v : List ℕ) (k : ℕ) → IsLeastColumn r v (length v) k → IsLeastRatio (slice_index r) (slice_index v) (length v) k
least_ratio r v k h = record {
  in_range = h.in_range;
  some = h.some;
  least = λ j l. let e : slice_index r k * slice_index v j ≤ slice_index r j * slice_index v k = h.least j l in omega arith;
}

pub nonzero_div-result : goal.nonzero_div-result
nonzero_div-result c = positive _ _ _ c.gcd-divisor.ensures c.limiting_column-column.ensures.some

pub nonzero_div-result-2 : goal.nonzero_div-result-2
nonzero_div-result-2 c = positive _ _ _ c.gcd-divisor.ensures c.limiting_column-column.ensures.some

pub invariant_of-result : goal.invariant_of-result
invariant_of-result c = record {
  some = let some = c.limiting_column-column.ensures.some in quotient_positive _ _ c.gcd-divisor.ensures.1 (omega (arith, some));
}

pub returns : goal.returns
returns c = fraction_at c.args.division.rest.now c.args.division.ray.now c.limiting_column-column.result c.gcd-divisor.result (least_ratio _ _ _ c.limiting_column-column.ensures) c.gcd-divisor.ensures
