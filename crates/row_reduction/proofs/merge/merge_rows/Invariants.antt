-- the terms so far are the merge of both rows up to their indices, and their columns come before those that are left
use Rattle.std.proofs.Common.{length, ◌-◌, ◌+◌, ◌≤◌}
use Rattle.row_reduction.specs.Merging.{IsMergedTo, next_column}
use Rattle.row_reduction.proofs.ColumnLemmas.{AreBefore}
use Rattle.row_reduction.proofs.merge.merge_rows.Given as goal

abbrev pub invariant-loop-i : goal.invariant-loop-i
invariant-loop-i l = record {
  within : l.i ≤ length l.pair.row.now;
  other_within : l.j ≤ length l.pair.other.now;
  merged : IsMergedTo l.pair.columns l.pair.row.now l.factor l.pair.other.now l.i l.j l.terms.items;
  row_before : AreBefore l.pair.row.now l.i (next_column l.pair.columns l.pair.other.now l.j);
  other_before : AreBefore l.pair.other.now l.j (next_column l.pair.columns l.pair.row.now l.i);
}

abbrev pub decreases-loop-i : goal.decreases-loop-i
decreases-loop-i l = (length l.pair.row.now - l.i) + (length l.pair.other.now - l.j)
