use Rattle.outcome_written_laws.proofs.WrittenTables.{written_table}
use Rattle.outcome_written_laws.proofs.WrittenDocuments.{written_table_read}
use Rattle.outcome_written_laws.proofs.written_tables_are_read.Goals as goal

pub returns-clause-lines : goal.returns-clause-lines
returns-clause-lines c = written_table

pub returns-clause-document : goal.returns-clause-document
returns-clause-document c = written_table_read
