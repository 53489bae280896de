use Rattle.text_document_laws.proofs.FirstMoves.{steps_faults_leave_first, moves_faults_leave_first}
use Rattle.text_document_laws.proofs.Lawful.{steps_laws, moves_laws}
use Rattle.text_document_laws.proofs.tables_with_moves_are_read.Goals as goal

pub returns-clause-steps : goal.returns-clause-steps
returns-clause-steps c = steps_laws

pub returns-clause-steps_first : goal.returns-clause-steps_first
returns-clause-steps_first c = steps_faults_leave_first

pub returns-clause-moves : goal.returns-clause-moves
returns-clause-moves c = moves_laws

pub returns-clause-moves_first : goal.returns-clause-moves_first
returns-clause-moves_first c = moves_faults_leave_first
