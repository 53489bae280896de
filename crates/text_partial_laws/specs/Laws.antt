-- The laws of partial tables, and of the first fault of a table's own text.
use Rattle.std.specs.Prelude.{◌≡◌, ℕ, List, ◌∷◌, ◌++◌, Result, Err, ◌↔◌}
use Rattle.text_definitions.specs.declared.Place.{Place}
use Rattle.text_definitions.specs.Text.{Line, lines_of, end_of}
use Rattle.text_definitions.specs.declared.LexFault.{LexFault}
use Rattle.table_definitions.specs.Table.{Row}
use Rattle.table_definitions.specs.declared.TextFault.TheVariants.{Lex}
use Rattle.signature_definitions.specs.declared.InputFault.{InputFault}
use Rattle.signature_definitions.specs.declared.InputFault.TheVariants.{Text}
use Rattle.surface_definitions.specs.Grammar.{IsVectorLine}
use Rattle.move_definitions.specs.Grammar.{IsMoveLine, IsStepLine}
use Rattle.text_document_definitions.specs.Blocks.{blocks_document}
use Rattle.text_document_definitions.specs.Documents.{table_document, vectors_document, vector_document, steps_document, moves_document, two_tables_document, tables_document}
use Rattle.text_document_definitions.specs.Grammar.{AreTables}
use Rattle.text_document_definitions.specs.Symbols.{Symbol, symbols_of, plain, LeavesAt, FirstLeavesAt}
use Rattle.text_document_laws.specs.FaultLaws.{SomeTable, SomeTableAndLines, SomeTableAndVector, SomeTableAndBlocks, SomeTwoTables}
use Rattle.text_partial_laws.specs.Partial.{IsPartialTable, Completes}
use Rattle.text_partial_laws.specs.Sound.{IsSound, IsSoundOfTwo, IsSoundOfMany}

-- first entries of rows glue soundly so far if and only if they are those of a table
abbrev pub PartialTablesAreCompleted : Type 0
PartialTablesAreCompleted = (n : ℕ) (rows : List Row) → IsPartialTable n rows ↔ ((table : List Row) × Completes n rows table)

-- Theorem: symbols are sound so far if and only if lines of a table show them, and a further symbol after them
abbrev pub SoundSymbolsGoOn : Type 0
SoundSymbolsGoOn = (end : Place) (ss : List Symbol) → IsSound ss ↔ ((lines : List Line) × (symbol : Symbol) × (more : List Symbol) × (plain (symbols_of end lines) ≡ ss ++ symbol ∷ more) × SomeTable lines)

-- Theorem: if an input is refused, the error is at a symbol after which there is no continuation, and at the first such
-- symbol if the symbols before it are sound
abbrev pub FaultsLeaveFirstIf : {A : Type 0} → (List ℕ → Result A InputFault) → (List Line → Type 0) → (List Symbol → Type 0) → Type 0
FaultsLeaveFirstIf read InGrammar Sound =
    (bytes : List ℕ) (f : LexFault) → read bytes ≡ Err (Text (Lex f))
    → (h : LeavesAt InGrammar (end_of bytes) (lines_of bytes) f.place) × (Sound (plain h.before) → FirstLeavesAt InGrammar (end_of bytes) (lines_of bytes) f.place)

-- lines that any number of tables are read from
abbrev pub SomeTables : List Line → Type 0
SomeTables lines = (tables : List (List Row)) × AreTables lines tables

-- of each kind of input
pub record SoundFaultsLeaveFirst : Type 0 where
  pub table : FaultsLeaveFirstIf table_document SomeTable IsSound
  pub vectors : FaultsLeaveFirstIf vectors_document (SomeTableAndLines IsVectorLine) IsSound
  pub vector : FaultsLeaveFirstIf vector_document SomeTableAndVector IsSound
  pub steps : FaultsLeaveFirstIf steps_document (SomeTableAndLines IsStepLine) IsSound
  pub moves : FaultsLeaveFirstIf moves_document (SomeTableAndLines IsMoveLine) IsSound
  pub blocks : FaultsLeaveFirstIf blocks_document SomeTableAndBlocks IsSound
  pub two_tables : FaultsLeaveFirstIf two_tables_document SomeTwoTables IsSoundOfTwo
  pub tables : FaultsLeaveFirstIf tables_document SomeTables IsSoundOfMany
