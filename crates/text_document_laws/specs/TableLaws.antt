-- Theorems on reading a table in either form from the remaining lines, and on the lines that remain after it.
use Rattle.std.specs.Prelude.{◌≡◌, ◌↔◌, List, [], ◌++◌, Ok, Err}
use Rattle.text_definitions.specs.Text.{Line}
use Rattle.text_definitions.specs.Reading.{Reading}
use Rattle.text_definitions.specs.declared.LexFault.{LexFault}
use Rattle.table_definitions.specs.Table.{Row}
use Rattle.table_definitions.specs.declared.TextFault.TheVariants.{Lex}
use Rattle.signature_definitions.specs.declared.InputFault.TheVariants.{Text}
use Rattle.signature_definitions.specs.Grammar.{AreTableLines}
use Rattle.text_document_definitions.specs.Documents.{next_table_at}
use Rattle.text_document_definitions.specs.TextForms.{AreTableText}
use Rattle.text_document_definitions.specs.Symbols.{FirstLeavesAt}

-- a table in either form is read from the next lines, the rest of the lines is left, and the last line is used up
pub record ReadsTable (c : Reading) (rows : List Row) (rest : List Line) : Type 0 where
  pub left : Reading
  pub read : next_table_at c ≡ Ok (rows, left)
  pub later : left.later ≡ rest
  pub at_end : left.current.tokens ≡ []

-- lines are read as a table if and only if they are one
abbrev pub AnyTablesAreRead : Type 0
AnyTablesAreRead = (c : Reading) (rows : List Row) (rest : List Line) → ReadsTable c rows rest ↔ ((lines : List Line) × (c.later ≡ lines ++ rest) × AreTableLines lines rows)

-- lines that begin with the text of a table, whatever follows it
abbrev pub BeginWithTableText : List Line → Type 0
BeginWithTableText lines = (front : List Line) × (rest : List Line) × (lines ≡ front ++ rest) × AreTableText front

-- Theorem: if the text of a table is refused, the error is at the first symbol after which no continuation is such a
-- text
abbrev pub AnyTableFaultsComeFirst : Type 0
AnyTableFaultsComeFirst =
    (c : Reading) (f : LexFault) → c.current.tokens ≡ [] → next_table_at c ≡ Err (Text (Lex f)) → FirstLeavesAt BeginWithTableText c.input_end c.later f.place
