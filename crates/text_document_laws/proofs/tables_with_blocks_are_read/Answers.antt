use Rattle.text_document_laws.proofs.FirstBlocks.{blocks_faults_leave_first}
use Rattle.text_document_laws.proofs.Lawful.{blocks_laws}
use Rattle.text_document_laws.proofs.tables_with_blocks_are_read.Goals as goal

pub returns-clause-blocks : goal.returns-clause-blocks
returns-clause-blocks c = blocks_laws

pub returns-clause-blocks_first : goal.returns-clause-blocks_first
returns-clause-blocks_first c = blocks_faults_leave_first
