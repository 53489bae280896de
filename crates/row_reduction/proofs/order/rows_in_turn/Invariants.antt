-- the rows in the new order and those that are left are a permutation of all rows
use Rattle.std.proofs.Common.{◌++◌}
use Rattle.std.specs.List.Sorted.{IsPermutation}
use Rattle.row_reduction.specs.RowsLeft.{rows_left}
use Rattle.row_reduction.proofs.order.rows_in_turn.Given as goal

abbrev pub invariant-loop-place : goal.invariant-loop-place
invariant-loop-place l = IsPermutation l.fn.rows.items (l.ordered.items ++ rows_left l.left.items)
