-- The rows so far, before those that are left to read.
use Rattle.std.proofs.Common.{◌≡◌, ◌-◌}
use Rattle.table_definitions.specs.TableText.{rows_at}
use Rattle.gluing_table.proofs.RowsRead.{with_rows}
use Rattle.gluing_table.proofs.reader.read_lines.Given as goal

abbrev pub invariant-loop-line : goal.invariant-loop-line
invariant-loop-line l = with_rows l.rows.items (rows_at (l.count - l._line) l.lexer) ≡ rows_at l.count l.fn.lexer
