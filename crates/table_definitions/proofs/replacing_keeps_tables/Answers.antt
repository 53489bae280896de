use Rattle.table_definitions.proofs.Replaced.{replaced_is_table}
use Rattle.table_definitions.proofs.replacing_keeps_tables.Goals as goal

pub returns : goal.returns
returns c = λ rows r can table. replaced_is_table rows r table can
