use Rattle.std.proofs.Common.{◌≡◌, length}
use Rattle.worked_cones.proofs.support_table_calls.table_of.Given as goal

abbrev pub invariant-loop-outer : goal.invariant-loop-outer
invariant-loop-outer l = record {
  columns : l.table.columns ≡ l.columns;
  count : length l.table.supports ≡ l.outer-index;
}
