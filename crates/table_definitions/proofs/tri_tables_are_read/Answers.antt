-- A table is read if and only if it is in the grammar.
use Rattle.std.proofs.Common.{◌≡◌, List, ◌++◌, ap, ◌∙◌}
use Rattle.text_definitions.specs.Text.{Line}
use Rattle.table_definitions.specs.Table.{Row}
use Rattle.text_definitions.specs.Reading.{Reading}
use Rattle.table_definitions.specs.Grammar.{AreTriLines}
use Rattle.table_definitions.specs.Laws.{ReadsTriTable}
use Rattle.table_definitions.proofs.TableReadingLaws.{TriTableRead, tri_table_read}
use Rattle.table_definitions.proofs.TableFoundLaws.{tri_table_found}
use Rattle.table_definitions.proofs.tri_tables_are_read.Goals as goal

lines_of_read : (c : Reading) (rows : List Row) (rest : List Line) → ReadsTriTable c rows rest → (lines : List Line) × (c.later ≡ lines ++ rest) × AreTriLines lines rows
lines_of_read c rows rest r =
    let t : TriTableRead c rows r.left = tri_table_read c rows r.left r.read in
    (t.lines, t.split ∙ ap (λ (ls : List Line). t.lines ++ ls) r.later, t.table)

pub returns : goal.returns
returns c = λ left rows rest. (lines_of_read left rows rest, (λ t. tri_table_found left rows rest t.0 t.1 t.2))
