-- A table with steps, or with moves: the values of their lines, the first error of the text, and that of what follows a
-- table that was read.
use Rattle.move_definitions.specs.MoveText.{move_at, step_at}
use Rattle.move_definitions.specs.Grammar.{IsMoveLine, IsStepLine}
use Rattle.move_definitions.specs.TextLaws.{ReadsMove, ReadsStep}
use Rattle.move_definitions.proofs.MoveReadingLaws.{MoveRead, move_read, StepRead, step_read}
use Rattle.move_definitions.proofs.MoveFoundLaws.{move_found, step_found}
use Rattle.text_document_definitions.specs.Documents.{steps_document, moves_document}
use Rattle.text_document_definitions.specs.TextForms.{AreTableAndStepsText, AreTableAndMovesText}
use Rattle.text_document_laws.specs.FormLaws.{FaultsComeFirst}
use Rattle.text_document_laws.specs.FaultLaws.{StepsFaultsLeaveFirst, MovesFaultsLeaveFirst}
use Rattle.text_document_laws.proofs.Blocks.{ReadsLine}
use Rattle.text_document_laws.proofs.MoveWays.{ends_move, ends_step}
use Rattle.text_document_laws.proofs.FirstLines.{lines_faults_stand_first, lines_faults_leave_first}

pub reads_moves : ReadsLine move_at IsMoveLine
reads_moves = record {
  sound = λ c m d e. (let r : MoveRead c m d = move_read c m d e in (r.line, r.later));
  complete = λ c m h. (let r : ReadsMove c m = move_found c m h in (r.left, r.read, r.later));
}

pub reads_steps : ReadsLine step_at IsStepLine
reads_steps = record {
  sound = λ c s d e. (let r : StepRead c s d = step_read c s d e in (r.line, r.later));
  complete = λ c s h. (let r : ReadsStep c s = step_found c s h in (r.left, r.read, r.later));
}

pub steps_faults_stand_first : FaultsComeFirst steps_document AreTableAndStepsText
steps_faults_stand_first bytes f e = lines_faults_stand_first step_at IsStepLine reads_steps ends_step.goes ends_step.well bytes f e

pub moves_faults_stand_first : FaultsComeFirst moves_document AreTableAndMovesText
moves_faults_stand_first bytes f e = lines_faults_stand_first move_at IsMoveLine reads_moves ends_move.goes ends_move.well bytes f e

pub steps_faults_leave_first : StepsFaultsLeaveFirst
steps_faults_leave_first bytes rows d f table e = lines_faults_leave_first step_at IsStepLine reads_steps ends_step.goes ends_step.well bytes rows d f table e

pub moves_faults_leave_first : MovesFaultsLeaveFirst
moves_faults_leave_first bytes rows d f table e = lines_faults_leave_first move_at IsMoveLine reads_moves ends_move.goes ends_move.well bytes rows d f table e
