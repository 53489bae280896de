-- the rows of both blocks have the solutions of the system
use Rattle.std.proofs.Common.{◌≡◌, ◌++◌, take}
use Rattle.cone_row_laws.specs.Solutions.{HaveSameZeros}
use Rattle.row_reduction.specs.Eliminating.{AreEliminated}
use Rattle.row_reduction.proofs.blocks.solve_columns.Given as goal

abbrev pub invariant-loop-column : goal.invariant-loop-column
invariant-loop-column l = record {
  columns : l.blocks.unsolved.columns ≡ l.system.columns;
  same : HaveSameZeros l.system.rows (l.blocks.unsolved.rows.items ++ l.blocks.solved.rows.items);
  eliminated : AreEliminated l.system.rows (take l.column-index l.pivots) l.blocks.unsolved.rows.items l.blocks.solved.rows.items;
}
