-- the rows so far are the expected number of rows without entries
use Rattle.std.proofs.Common.{◌≡◌, length, replicate, []}
use Rattle.cone_core.proofs.reader.rows_of_no_columns.Given as goal

abbrev pub invariant-loop-number : goal.invariant-loop-number
invariant-loop-number l = (l.system.columns ≡ 0) × (l.system.rows ≡ replicate l._number []) × (length l.system.rows ≡ l._number)
