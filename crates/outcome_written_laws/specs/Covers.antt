-- The answer of `cover` is read again.
use Rattle.std.specs.Prelude.{◌≡◌, ◌*◌, ◌≤◌, Bool, List, length, Ok}
use Rattle.table_definitions.specs.Table.{max_tets, Row, IsTable}
use Rattle.cover_definitions.specs.Cover.{cover}
use Rattle.text_document_definitions.specs.Documents.{table_document}
use Rattle.outcome_definitions.specs.Covers.{cover_text}

-- the answer of `cover` is read as the cover's table
abbrev pub CoversAreRead : Type 0
CoversAreRead = (rows : List Row) (connected : Bool) → IsTable rows → 2 * length rows ≤ max_tets → table_document (cover_text rows connected) ≡ Ok (cover rows)
