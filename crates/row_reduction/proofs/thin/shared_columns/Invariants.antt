-- the index is within the other row, each counted column is there, and no more are counted than the first terms of the
-- row have
use Rattle.std.proofs.Common.{length, take, ◌≤◌, ◌<◌, pos, negsuc}
use Rattle.std.specs.Prelude.{count_by}
use Rattle.row_reduction.specs.Eliminating.{CancelsTerm, is_shared, is_cancelled}
use Rattle.row_reduction.proofs.thin.shared_columns.Given as goal

abbrev pub invariant-loop-column : goal.invariant-loop-column
invariant-loop-column l = record {
  within : l.place ≤ length l.other;
  same : 0 < l.shared.same → CancelsTerm l.row (negsuc 0) l.other;
  opposite : 0 < l.shared.opposite → CancelsTerm l.row (pos 1) l.other;
  any_shared : l.shared.any ≤ count_by (is_shared l.other) (take l.column-index l.row);
  same_cancelled : l.shared.same ≤ count_by (is_cancelled (negsuc 0) l.other) (take l.column-index l.row);
  opposite_cancelled : l.shared.opposite ≤ count_by (is_cancelled (pos 1) l.other) (take l.column-index l.row);
}
