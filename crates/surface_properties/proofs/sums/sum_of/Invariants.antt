-- The sum so far.
use Rattle.std.proofs.Common.{◌≡◌, take}
use Rattle.std.specs.Prelude.{sum}
use Rattle.surface_properties.specs.Capped.{capped}
use Rattle.surface_properties.proofs.sums.sum_of.Given as goal

abbrev pub invariant-loop-entry : goal.invariant-loop-entry
invariant-loop-entry l = l.total ≡ capped (sum (take l.entry-index l.x))
