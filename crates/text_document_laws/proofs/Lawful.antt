-- The laws of each input with tables. An input that leaves the form of its text leaves its grammar.
use Rattle.std.specs.Prelude.{ℕ, List, [], ◌∷◌, Result}
use Rattle.text_definitions.specs.Text.{Line, lines_of, end_of}
use Rattle.text_definitions.specs.declared.LexFault.{LexFault}
use Rattle.text_definitions.specs.Reading.{Reading}
use Rattle.table_definitions.specs.Table.{Row}
use Rattle.cone_text_definitions.specs.VectorText.{vector_at}
use Rattle.signature_definitions.specs.declared.InputFault.{InputFault}
use Rattle.signature_definitions.specs.Grammar.{AreTableLines}
use Rattle.surface_definitions.specs.Grammar.{IsVectorLine}
use Rattle.move_definitions.specs.MoveText.{move_at, step_at}
use Rattle.move_definitions.specs.Grammar.{IsMoveLine, IsStepLine}
use Rattle.text_document_definitions.specs.Grammar.{AreTableAndLines, AreTwoTables, AreTables}
use Rattle.text_document_definitions.specs.Blocks.{blocks_document, AreTableAndBlocks, AreTableAndBlocksText}
use Rattle.text_document_definitions.specs.Documents.{table_document, table_and_lines, vector_document, two_tables_document, tables_document}
use Rattle.text_document_definitions.specs.Symbols.{LeavesAt}
use Rattle.text_document_definitions.specs.TextForms.{AreTableText, AreTextAndLines, AreTableAndVectorText, AreTwoTablesText, AreTablesText}
use Rattle.text_document_laws.specs.FormLaws.{AreRead, HaveForm, FaultsLeave, FaultsComeFirst, AreLaws, TableLaws, TwoTablesLaws, TablesLaws, VectorsLaws, VectorLaws, StepsLaws, MovesLaws, BlocksLaws}
use Rattle.text_document_laws.proofs.Blocks.{ReadsLine}
use Rattle.text_document_laws.proofs.Documents.{reads_vectors, table_document_read, two_tables_read, vector_document_read, lines_document_read, lines_document_found}
use Rattle.text_document_laws.proofs.AnyTables.{tables_read}
use Rattle.text_document_laws.proofs.SumDocuments.{blocks_document_read}
use Rattle.text_document_laws.proofs.TextGrammar.{tables_have_text}
use Rattle.text_document_laws.proofs.HaveText.{Value, lines_have_text, one_vector_has_text, two_tables_have_text, many_tables_have_text}
use Rattle.text_document_laws.proofs.FirstTables.{table_faults_stand_first, two_tables_faults_stand_first, tables_faults_stand_first}
use Rattle.text_document_laws.proofs.FirstVectors.{vectors_faults_stand_first, vector_faults_stand_first}
use Rattle.text_document_laws.proofs.FirstMoves.{reads_steps, reads_moves, steps_faults_stand_first, moves_faults_stand_first}
use Rattle.text_document_laws.proofs.FirstBlocks.{blocks_faults_stand_first}

module _ {A : Type 0} (read : List ℕ → Result A InputFault) (grammar : List Line → A → Type 0) (form : List Line → Type 0) where
  leave_with_form : HaveForm grammar form → FaultsComeFirst read form → FaultsLeave read grammar
  leave_with_form has first bytes f e =
      let h : LeavesAt form (end_of bytes) (lines_of bytes) f.place = (first bytes f e).leaves in
      record { before = h.before; symbol = h.symbol; after = h.after; occurs = h.occurs; no_way_on = λ others more shown g. h.no_way_on others more shown (has others g.0 g.1) }

  lawful : AreRead read grammar → HaveForm grammar form → FaultsComeFirst read form → AreLaws A read grammar form
  lawful reads has first = record { reads = reads; has_form = has; leaves = leave_with_form has first; comes_first = first }

pub table_laws : TableLaws
table_laws = lawful table_document AreTableLines AreTableText table_document_read tables_have_text table_faults_stand_first

pub two_tables_laws : TwoTablesLaws
two_tables_laws =
    lawful two_tables_document (λ lines tables. AreTwoTables lines tables.0 tables.1) AreTwoTablesText (λ bytes tables. two_tables_read bytes tables.0 tables.1)
    (λ lines tables h. two_tables_have_text lines tables.0 tables.1 h) two_tables_faults_stand_first

pub tables_laws : TablesLaws
tables_laws = lawful tables_document AreTables AreTablesText tables_read many_tables_have_text tables_faults_stand_first

-- a table and lines of one form
module _ {A : Type 0} (line_at : Reading → Result (A × Reading) LexFault) (IsLine : Line → A → Type 0) (reads : ReadsLine line_at IsLine) where
  abbrev input : List Line → List Row × List A → Type 0
  input lines value = AreTableAndLines IsLine lines value.0 value.1

  lines_laws : FaultsComeFirst (table_and_lines line_at) (AreTextAndLines (Value IsLine)) → AreLaws (List Row × List A) (table_and_lines line_at) input (AreTextAndLines (Value IsLine))
  lines_laws first =
      lawful (table_and_lines line_at) input (AreTextAndLines (Value IsLine))
      (λ bytes value. (lines_document_read line_at IsLine reads bytes value.0 value.1, lines_document_found line_at IsLine reads bytes value.0 value.1))
      (λ lines value h. lines_have_text IsLine lines value.0 value.1 h) first

pub vectors_laws : VectorsLaws
vectors_laws = lines_laws vector_at IsVectorLine reads_vectors vectors_faults_stand_first

pub steps_laws : StepsLaws
steps_laws = lines_laws step_at IsStepLine reads_steps steps_faults_stand_first

pub moves_laws : MovesLaws
moves_laws = lines_laws move_at IsMoveLine reads_moves moves_faults_stand_first

pub vector_laws : VectorLaws
vector_laws =
    lawful vector_document (λ lines input. AreTableAndLines IsVectorLine lines input.0 (input.1 ∷ [])) AreTableAndVectorText (λ bytes input. vector_document_read bytes input.0 input.1)
    (λ lines input h. one_vector_has_text lines input.0 input.1 h) vector_faults_stand_first

pub blocks_laws : BlocksLaws
blocks_laws =
    lawful blocks_document (λ lines input. AreTableAndBlocks lines input.0 input.1) AreTableAndBlocksText (λ bytes input. blocks_document_read bytes input.0 input.1)
    (λ lines input h. (h.0, h.1, h.2, tables_have_text h.0 input.0 h.3, (input.1, h.4))) blocks_faults_stand_first
