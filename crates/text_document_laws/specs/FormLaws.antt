-- The laws of the inputs with tables: one record, and a case of it for each kind of input. A kind is a reader, the
-- grammar of its lines, and the form of their text, which says nothing of what rows glue and signatures spell.
use Rattle.std.specs.Prelude.{◌≡◌, ℕ, List, [], ◌∷◌, Result, Ok, Err, ◌↔◌}
use Rattle.text_definitions.specs.Text.{Line, lines_of, end_of}
use Rattle.text_definitions.specs.declared.LexFault.{LexFault}
use Rattle.table_definitions.specs.Table.{Row}
use Rattle.table_definitions.specs.declared.TextFault.TheVariants.{Lex}
use Rattle.signature_definitions.specs.declared.InputFault.{InputFault}
use Rattle.signature_definitions.specs.declared.InputFault.TheVariants.{Text}
use Rattle.signature_definitions.specs.Grammar.{AreTableLines}
use Rattle.surface_definitions.specs.Grammar.{IsVectorLine}
use Rattle.move_definitions.specs.Moves.{Move}
use Rattle.move_definitions.specs.MoveText.{Step}
use Rattle.move_definitions.specs.Grammar.{IsMoveLine, IsStepLine}
use Rattle.text_document_definitions.specs.Grammar.{AreTableAndLines, AreTwoTables, AreTables}
use Rattle.text_document_definitions.specs.Blocks.{Block, blocks_document, AreTableAndBlocks, AreTableAndBlocksText}
use Rattle.text_document_definitions.specs.Documents.{table_document, vectors_document, steps_document, moves_document, vector_document, two_tables_document, tables_document}
use Rattle.text_document_definitions.specs.Symbols.{LeavesAt, FirstLeavesAt}
use Rattle.text_document_definitions.specs.TextForms.{AreTableText, AreTableAndVectorsText, AreTableAndStepsText, AreTableAndMovesText, AreTableAndVectorText, AreTwoTablesText, AreTablesText}

-- lines that some value is read from
abbrev pub Some : {A : Type 0} → (List Line → A → Type 0) → List Line → Type 0
Some {A} grammar lines = (value : A) × grammar lines value

-- bytes are read as a value if and only if their lines are this value
abbrev pub AreRead : {A : Type 0} → (List ℕ → Result A InputFault) → (List Line → A → Type 0) → Type 0
AreRead {A} read grammar = (bytes : List ℕ) (value : A) → (read bytes ≡ Ok value) ↔ grammar (lines_of bytes) value

-- lines of a value have the form of the text
abbrev pub HaveForm : {A : Type 0} → (List Line → A → Type 0) → (List Line → Type 0) → Type 0
HaveForm {A} grammar form = (lines : List Line) (value : A) → grammar lines value → form lines

-- if the text is refused, the error is at a symbol after which no continuation is an input of the kind
abbrev pub FaultsLeave : {A : Type 0} → (List ℕ → Result A InputFault) → (List Line → A → Type 0) → Type 0
FaultsLeave read grammar = (bytes : List ℕ) (f : LexFault) → read bytes ≡ Err (Text (Lex f)) → LeavesAt (Some grammar) (end_of bytes) (lines_of bytes) f.place

-- and at the first symbol after which no continuation has the form of such a text
abbrev pub FaultsComeFirst : {A : Type 0} → (List ℕ → Result A InputFault) → (List Line → Type 0) → Type 0
FaultsComeFirst read form = (bytes : List ℕ) (f : LexFault) → read bytes ≡ Err (Text (Lex f)) → FirstLeavesAt form (end_of bytes) (lines_of bytes) f.place

pub record AreLaws (A : Type 0) (read : List ℕ → Result A InputFault) (grammar : List Line → A → Type 0) (form : List Line → Type 0) : Type 0 where
  pub reads : AreRead read grammar
  pub has_form : HaveForm grammar form
  pub leaves : FaultsLeave read grammar
  pub comes_first : FaultsComeFirst read form

-- a table, two, and any number
abbrev pub TableLaws : Type 0
TableLaws = AreLaws (List Row) table_document AreTableLines AreTableText

abbrev pub TwoTablesLaws : Type 0
TwoTablesLaws = AreLaws (List Row × List Row) two_tables_document (λ lines tables. AreTwoTables lines tables.0 tables.1) AreTwoTablesText

abbrev pub TablesLaws : Type 0
TablesLaws = AreLaws (List (List Row)) tables_document AreTables AreTablesText

-- a table with vectors, with one vector, with steps, with moves, and with blocks of sums
abbrev pub VectorsLaws : Type 0
VectorsLaws = AreLaws (List Row × List (List ℕ)) vectors_document (λ lines input. AreTableAndLines IsVectorLine lines input.0 input.1) AreTableAndVectorsText

abbrev pub VectorLaws : Type 0
VectorLaws = AreLaws (List Row × List ℕ) vector_document (λ lines input. AreTableAndLines IsVectorLine lines input.0 (input.1 ∷ [])) AreTableAndVectorText

abbrev pub StepsLaws : Type 0
StepsLaws = AreLaws (List Row × List Step) steps_document (λ lines input. AreTableAndLines IsStepLine lines input.0 input.1) AreTableAndStepsText

abbrev pub MovesLaws : Type 0
MovesLaws = AreLaws (List Row × List Move) moves_document (λ lines input. AreTableAndLines IsMoveLine lines input.0 input.1) AreTableAndMovesText

abbrev pub BlocksLaws : Type 0
BlocksLaws = AreLaws (List Row × List Block) blocks_document (λ lines input. AreTableAndBlocks lines input.0 input.1) AreTableAndBlocksText
