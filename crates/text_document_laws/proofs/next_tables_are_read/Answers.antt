use Rattle.text_document_laws.proofs.NextTables.{any_tables_read, any_table_faults_stand_first}
use Rattle.text_document_laws.proofs.next_tables_are_read.Goals as goal

pub returns-clause-lines : goal.returns-clause-lines
returns-clause-lines c = any_tables_read

pub returns-clause-faults : goal.returns-clause-faults
returns-clause-faults c = any_table_faults_stand_first
