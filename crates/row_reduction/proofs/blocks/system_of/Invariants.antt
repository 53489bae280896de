-- the system of the rows so far
use Rattle.std.proofs.Common.{◌≡◌}
use Rattle.row_reduction.proofs.blocks.system_of.Given as goal

abbrev pub invariant-loop-row : goal.invariant-loop-row
invariant-loop-row l = record {
  columns : l.system.columns ≡ l.fn.list.columns;
  rows : l.system.rows ≡ l.yielded;
}
