-- the rows are cleared so far
use Rattle.std.proofs.Common.{◌≡◌, length}
use Rattle.row_reduction.specs.Clearing.{AreClearedBy}
use Rattle.row_reduction.proofs.EliminatingLemmas.{AreClearedBelow}
use Rattle.row_reduction.proofs.clear.clear_rows.Given as goal

abbrev pub invariant-loop-i : goal.invariant-loop-i
invariant-loop-i l = record {
  columns : l.list.columns ≡ l.fn.list.columns;
  count : length l.list.rows.items ≡ length l.fn.list.rows.items;
  cleared : AreClearedBy l.pivot.row l.fn.list.rows.items l.list.rows.items;
  each : AreClearedBelow l.pivot.row l.pivot.column l.fn.list.rows.items l.list.rows.items l.i;
}
