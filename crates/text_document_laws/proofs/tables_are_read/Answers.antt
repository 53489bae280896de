use Rattle.text_document_laws.proofs.LeavingTables.{table_faults_leave_first, second_table_faults_leave_first, two_tables_faults_leave_first, tables_faults_leave_first}
use Rattle.text_document_laws.proofs.Lawful.{table_laws, two_tables_laws, tables_laws}
use Rattle.text_document_laws.proofs.tables_are_read.Goals as goal

pub returns-clause-one : goal.returns-clause-one
returns-clause-one c = table_laws

pub returns-clause-one_first : goal.returns-clause-one_first
returns-clause-one_first c = table_faults_leave_first

pub returns-clause-two : goal.returns-clause-two
returns-clause-two c = two_tables_laws

pub returns-clause-second_first : goal.returns-clause-second_first
returns-clause-second_first c = second_table_faults_leave_first

pub returns-clause-two_first : goal.returns-clause-two_first
returns-clause-two_first c = two_tables_faults_leave_first

pub returns-clause-any : goal.returns-clause-any
returns-clause-any c = tables_laws

pub returns-clause-any_first : goal.returns-clause-any_first
returns-clause-any_first c = tables_faults_leave_first
