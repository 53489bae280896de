-- the rows so far, followed by those of the lines that are left, are those of all lines
use Rattle.std.proofs.Common.{◌≡◌, ◌-◌, length}
use Rattle.cone_text_definitions.specs.ConeText.{cone_rows_at}
use Rattle.cone_core.specs.ConeReads.{sparse_rows_at}
use Rattle.cone_core.proofs.ConeLemmas.{with_rows}
use Rattle.cone_core.proofs.reader.read_rows.Given as goal

abbrev pub invariant-loop-number : goal.invariant-loop-number
invariant-loop-number l = record {
  reads : with_rows l.system.rows (cone_rows_at (l.count - l._number) l.columns l.lexer) ≡ sparse_rows_at l.count l.columns l.fn.lexer;
  columns_are : l.system.columns ≡ l.columns;
  count_is : length l.system.rows ≡ l._number;
}
