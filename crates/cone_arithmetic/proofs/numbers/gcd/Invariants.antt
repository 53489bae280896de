use Rattle.std.proofs.Common.{ℕ}
use Rattle.std.specs.Int.{IsGcd}
use Rattle.cone_arithmetic.proofs.numbers.gcd.Given as goal

abbrev pub invariant-loop-smaller : goal.invariant-loop-smaller
invariant-loop-smaller l = (g : ℕ) → IsGcd l.greater l.smaller g → IsGcd l.fn.a l.fn.b g

abbrev pub decreases-loop-smaller : goal.decreases-loop-smaller
decreases-loop-smaller l = l.smaller
