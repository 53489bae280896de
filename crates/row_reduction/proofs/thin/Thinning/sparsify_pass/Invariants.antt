-- the rows are 0 where they were
use Rattle.std.proofs.Common.{◌≡◌, length}
use Rattle.cone_row_laws.specs.Solutions.{HaveSameZeros}
use Rattle.row_reduction.specs.Eliminating.{AreThinned}
use Rattle.row_reduction.proofs.thin.Thinning.sparsify_pass.Given as goal

abbrev pub invariant-loop-i : goal.invariant-loop-i
invariant-loop-i l = record {
  columns : l.self.list.columns ≡ l.fn.self.list.columns;
  count : length l.self.list.rows.items ≡ length l.fn.self.list.rows.items;
  same : HaveSameZeros l.fn.self.list.rows.items l.self.list.rows.items;
  thinned : AreThinned l.fn.self.list.rows.items l.self.list.rows.items;
}
