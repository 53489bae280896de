-- the rows so far
use Rattle.std.proofs.Common.{◌≡◌, take}
use Rattle.std.specs.List.{All}
use Rattle.cone_arithmetic.specs.Sparse.{IsInRange}
use Rattle.row_reduction.proofs.blocks.rows_of.Given as goal

abbrev pub invariant-loop-i : goal.invariant-loop-i
invariant-loop-i l = record {
  same : l.rows.items ≡ take l.i l.system.rows;
  in_range : All (IsInRange l.system.columns) l.rows.items;
}
