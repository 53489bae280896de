-- The laws of what is written: it is read again as the same value.
use Rattle.std.specs.Prelude.{◌≡◌, ℕ, List, ◌++◌, codes, Ok}
use Rattle.std.specs.List.{AllZip}
use Rattle.text_definitions.specs.Text.{lines_of}
use Rattle.text_definitions.specs.Written.{limit}
use Rattle.table_definitions.specs.Table.{Row, IsTable}
use Rattle.table_definitions.specs.TableText.{table_text}
use Rattle.table_definitions.specs.Grammar.{AreTriLines}
use Rattle.surface_definitions.specs.Grammar.{IsVectorLine}
use Rattle.text_document_definitions.specs.Documents.{table_document, vectors_document}
use Rattle.cone_text_definitions.specs.VectorText.{list_text}
use Rattle.outcome_definitions.specs.Enumerations.{AreUpTo, listing}

-- what is written for a table is the table's lines
abbrev pub WrittenTablesAreLines : Type 0
WrittenTablesAreLines = (rows : List Row) → IsTable rows → AreTriLines (lines_of (table_text rows)) rows

-- and it is read as the table
abbrev pub WrittenTablesAreRead : Type 0
WrittenTablesAreRead = (rows : List Row) → IsTable rows → table_document (table_text rows) ≡ Ok rows

-- what is written for a list of vectors is a line for each, where no entry is above the greatest number of a document
abbrev pub WrittenVectorsAreLines : Type 0
WrittenVectorsAreLines = (list : List (List ℕ)) → AreUpTo limit list → AllZip IsVectorLine (lines_of (list_text list)) list

-- Theorem: the text of a table, followed by an answer of `surfaces`, is read as the table and the vectors
abbrev pub WrittenAnswersAreRead : Type 0
WrittenAnswersAreRead =
    (rows : List Row) (list : List (List ℕ)) → IsTable rows → AreUpTo limit list → vectors_document (table_text rows ++ listing (codes "surfaces") list) ≡ Ok (rows, list)
