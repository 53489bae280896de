-- the rows that are retained of those so far
use Rattle.std.proofs.Common.{Contains}
use Rattle.std.specs.List.{All}
use Rattle.cone_row_laws.specs.Solutions.{HaveSameZeros}
use Rattle.row_reduction.specs.Eliminating.{AreKept}
use Rattle.row_reduction.proofs.blocks.distinct_rows.Given as goal

abbrev pub invariant-loop-row : goal.invariant-loop-row
invariant-loop-row l = record {
  same : HaveSameZeros l.yielded l.kept.items;
  kept : AreKept l.yielded l.kept.items;
  stand : All (Contains l.yielded) l.kept.items;
}
