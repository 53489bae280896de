-- the best so far is one of those that are left
use Rattle.std.proofs.Common.{length, ◌<◌}
use Rattle.row_reduction.proofs.order.first_position.Given as goal

abbrev pub invariant-loop-position : goal.invariant-loop-position
invariant-loop-position l = l.best < length l.left
