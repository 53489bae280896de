-- The first table that is not connected was found before.
use Rattle.table_commands.proofs.Grouping.{still_found}
use Rattle.table_commands.proofs.groups.add.Goals as goal

pub returns-in-Some : goal.returns-in-Some
returns-in-Some c = λ table tables g. still_found tables c.args.table.now c.args.groups.now c.in-Some.field-0 c.in-Some.is table g
