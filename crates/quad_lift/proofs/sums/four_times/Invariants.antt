-- The sum so far, which is within the range of the code's numbers.
use Rattle.std.proofs.Common.{◌≡◌, ◌≤◌, take}
use Rattle.std.specs.Prelude.{sum}
use Rattle.quad_lift.proofs.sums.four_times.Given as goal

abbrev pub invariant-loop-entry : goal.invariant-loop-entry
invariant-loop-entry l = (l.sum ≡ sum (take l.entry-index l.x)) × (l.sum ≤ l.most)
