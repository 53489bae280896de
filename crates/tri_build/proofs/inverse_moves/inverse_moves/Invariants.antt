-- The inverse moves so far result in a relabelling of the table before the steps that are done.
use Rattle.std.proofs.Common.{List, length}
use Rattle.table_definitions.specs.Table.{Row}
use Rattle.tri_build.specs.Steps.{AreSteps}
use Rattle.tri_build.proofs.Ways.{IsOnWay}
use Rattle.tri_build.proofs.inverse_moves.inverse_moves.Given as goal

abbrev pub invariant-loop-step : goal.invariant-loop-step
invariant-loop-step l = (first : List Row) → AreSteps first l.fn.steps.items l.fn.table → IsOnWay first l.fn.steps.items l.fn.table l.steps.items l.way.now l.way.on l.way.moves.items

abbrev pub decreases-loop-step : goal.decreases-loop-step
decreases-loop-step l = length l.steps.items
