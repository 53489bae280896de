use Rattle.std.proofs.Common.{◌≡◌, ℕ, ◌/◌, ◌<◌, ◌≤◌, get_or}
use Rattle.cone_arithmetic.proofs.divisors.divide_by_byte_common.Given as goal

abbrev pub invariant-loop-entry : goal.invariant-loop-entry
invariant-loop-entry l = ((k : ℕ) → k < l.entry-index → get_or l.entries k 0 ≡ get_or l.initial.entries k 0 / l.divisor) × ((k : ℕ) → l.entry-index ≤ k → get_or l.entries k 0 ≡ get_or l.initial.entries k 0)
