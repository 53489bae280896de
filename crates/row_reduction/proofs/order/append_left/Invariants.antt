-- the rows that are left so far are appended
use Rattle.std.proofs.Common.{◌≡◌, ◌++◌}
use Rattle.row_reduction.specs.RowsLeft.{rows_left}
use Rattle.row_reduction.proofs.order.append_left.Given as goal

abbrev pub invariant-loop-slot : goal.invariant-loop-slot
invariant-loop-slot l = l.ordered.items ≡ l.fn.ordered.items ++ rows_left l.yielded
