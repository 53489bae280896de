-- The reported error is that of the input.
use Rattle.std.proofs.lemmas.Result.{IfOk-weaker}
use Rattle.command_answers.proofs.RefusalLines.{input_refused}
use Rattle.table_commands.proofs.group_command.group.Goals as goal

pub returns-in-Err : goal.returns-in-Err
returns-in-Err c = IfOk-weaker c.fault_outcome.result _ _ (λ o h. input_refused _ c.in-Err.fault _ o c.in-Err.ensures h) c.fault_outcome.ensures
