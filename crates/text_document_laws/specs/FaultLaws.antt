-- Theorems on errors that concern whole grammars, not only the form of the text: an input that is no cone first leaves
-- the grammar of cones at the error's place, and so does the input after a table that was read. If that is itself a
-- table, it first leaves the form of a table's text there.
use Rattle.std.specs.Prelude.{◌≡◌, ℕ, zero, suc, List, [], ◌∷◌, ◌++◌, length, Result, Ok, Err}
use Rattle.text_definitions.specs.Text.{Line, lines_of, end_of}
use Rattle.text_definitions.specs.Reading.{Reading, start_of}
use Rattle.text_definitions.specs.declared.LexFault.{LexFault}
use Rattle.table_definitions.specs.Table.{Row}
use Rattle.table_definitions.specs.declared.TextFault.TheVariants.{Lex}
use Rattle.signature_definitions.specs.declared.InputFault.{InputFault}
use Rattle.signature_definitions.specs.declared.InputFault.TheVariants.{Text}
use Rattle.signature_definitions.specs.Grammar.{AreTableLines}
use Rattle.cone_text_definitions.specs.ConeText.{Cone}
use Rattle.surface_definitions.specs.Grammar.{IsVectorLine}
use Rattle.move_definitions.specs.Grammar.{IsMoveLine, IsStepLine}
use Rattle.text_document_definitions.specs.Blocks.{Block, blocks_document, AreTableAndBlocks}
use Rattle.text_document_definitions.specs.ConeGrammar.{AreConeLines}
use Rattle.text_document_definitions.specs.Grammar.{AreTableAndLines, AreTwoTables, AreTables}
use Rattle.text_document_definitions.specs.Documents.{cone_document, next_table_at, table_document, vectors_document, vector_document, steps_document, moves_document, two_tables_document, tables_document}
use Rattle.text_document_definitions.specs.Symbols.{FirstLeavesAt}
use Rattle.text_document_definitions.specs.TextForms.{AreTableText, AreTablesText}

-- lines that some cone is read from; some table; a table and lines of one form, one vector, or blocks of sums; two
-- tables
abbrev pub SomeCone : List Line → Type 0
SomeCone lines = (cone : Cone) × AreConeLines lines cone

abbrev pub SomeTable : List Line → Type 0
SomeTable lines = (rows : List Row) × AreTableLines lines rows

abbrev pub SomeTableAndLines : {A : Type 0} → (Line → A → Type 0) → List Line → Type 0
SomeTableAndLines {A} form lines = (rows : List Row) × (values : List A) × AreTableAndLines form lines rows values

abbrev pub SomeTableAndVector : List Line → Type 0
SomeTableAndVector lines = (rows : List Row) × (vector : List ℕ) × AreTableAndLines IsVectorLine lines rows (vector ∷ [])

abbrev pub SomeTableAndBlocks : List Line → Type 0
SomeTableAndBlocks lines = (rows : List Row) × (blocks : List Block) × AreTableAndBlocks lines rows blocks

abbrev pub SomeTwoTables : List Line → Type 0
SomeTwoTables lines = (first : List Row) × (second : List Row) × AreTwoTables lines first second

-- a table, and then the text of one, whatever it glues or spells
abbrev pub SomeTableAndText : List Line → Type 0
SomeTableAndText lines = (front : List Line) × (back : List Line) × (lines ≡ front ++ back) × SomeTable front × AreTableText back

-- the given number of tables, and then the text of any number of them
abbrev pub SomeTablesAndText : ℕ → List Line → Type 0
SomeTablesAndText zero lines = AreTablesText lines
SomeTablesAndText (suc n) lines = (front : List Line) × (back : List Line) × (lines ≡ front ++ back) × SomeTable front × SomeTablesAndText n back

abbrev pub ConeFaultsLeave : Type 0
ConeFaultsLeave = (bytes : List ℕ) (f : LexFault) → cone_document bytes ≡ Err f → FirstLeavesAt SomeCone (end_of bytes) (lines_of bytes) f.place

-- Theorem: if a table was read and what follows is refused, the error is at the first symbol after which there is no
-- continuation
abbrev pub LaterFaultsLeaveFirst : {A : Type 0} → (List ℕ → Result A InputFault) → (List Line → Type 0) → Type 0
LaterFaultsLeaveFirst read InGrammar =
    (bytes : List ℕ) (rows : List Row) (left : Reading) (f : LexFault) → next_table_at (start_of bytes) ≡ Ok (rows, left) → read bytes ≡ Err (Text (Lex f))
    → FirstLeavesAt InGrammar (end_of bytes) (lines_of bytes) f.place

abbrev pub TableFaultsLeaveFirst : Type 0
TableFaultsLeaveFirst = LaterFaultsLeaveFirst table_document SomeTable

abbrev pub VectorsFaultsLeaveFirst : Type 0
VectorsFaultsLeaveFirst = LaterFaultsLeaveFirst vectors_document (SomeTableAndLines IsVectorLine)

abbrev pub VectorFaultsLeaveFirst : Type 0
VectorFaultsLeaveFirst = LaterFaultsLeaveFirst vector_document SomeTableAndVector

abbrev pub StepsFaultsLeaveFirst : Type 0
StepsFaultsLeaveFirst = LaterFaultsLeaveFirst steps_document (SomeTableAndLines IsStepLine)

abbrev pub MovesFaultsLeaveFirst : Type 0
MovesFaultsLeaveFirst = LaterFaultsLeaveFirst moves_document (SomeTableAndLines IsMoveLine)

abbrev pub BlocksFaultsLeaveFirst : Type 0
BlocksFaultsLeaveFirst = LaterFaultsLeaveFirst blocks_document SomeTableAndBlocks

-- of two tables, where the first was read, and where both were
abbrev pub SecondTableFaultsLeaveFirst : Type 0
SecondTableFaultsLeaveFirst = LaterFaultsLeaveFirst two_tables_document SomeTableAndText

abbrev pub TwoTablesFaultsLeaveFirst : Type 0
TwoTablesFaultsLeaveFirst =
    (bytes : List ℕ) (first second : List Row) (next left : Reading) (f : LexFault) → next_table_at (start_of bytes) ≡ Ok (first, next) → next_table_at next ≡ Ok (second, left) → two_tables_document bytes ≡ Err (Text (Lex f))
    → FirstLeavesAt SomeTwoTables (end_of bytes) (lines_of bytes) f.place

-- of any number of tables, if the lines begin with the given number
abbrev pub TablesFaultsLeaveFirst : Type 0
TablesFaultsLeaveFirst =
    (bytes : List ℕ) (front back : List Line) (tables : List (List Row)) (f : LexFault) → lines_of bytes ≡ front ++ back → AreTables front tables → tables_document bytes ≡ Err (Text (Lex f))
    → FirstLeavesAt (SomeTablesAndText (length tables)) (end_of bytes) (lines_of bytes) f.place
