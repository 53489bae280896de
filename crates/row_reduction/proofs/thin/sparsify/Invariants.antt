-- the rows are 0 at the vectors at which they were
use Rattle.std.proofs.Common.{◌≡◌}
use Rattle.cone_row_laws.specs.Solutions.{HaveSameZeros}
use Rattle.row_reduction.specs.Eliminating.{AreThinned}
use Rattle.row_reduction.proofs.thin.sparsify.Given as goal

abbrev pub invariant-loop-pass : goal.invariant-loop-pass
invariant-loop-pass l = record {
  columns : l.thinning.list.columns ≡ l.fn.list.columns;
  same : HaveSameZeros l.fn.list.rows.items l.thinning.list.rows.items;
  thinned : AreThinned l.fn.list.rows.items l.thinning.list.rows.items;
}
