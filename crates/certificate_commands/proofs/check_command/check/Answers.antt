-- An input has at most one more move than bytes, and the reported error is that of the input.
use Rattle.std.proofs.Common.{length, ap, arith}
use Rattle.std.proofs.lemmas.Result.{IfOk-weaker}
use Rattle.command_answers.proofs.RefusalLines.{input_refused}
use Rattle.certificate_commands.proofs.MoveLines.{few_moves}
use Rattle.certificate_commands.proofs.check_command.check.Goals as goal

pub run_check-requires : goal.run_check-requires
run_check-requires c = omega (arith, few_moves c.args.bytes.now _ c.in-Ok.document.moves.items c.in-Ok.ensures, ap length c.deref.ensures.value, c.requires)

pub returns-in-Err : goal.returns-in-Err
returns-in-Err c = record { answer = IfOk-weaker c.fault_outcome.result _ _ (λ o h. input_refused _ c.in-Err.fault _ o c.in-Err.ensures h) c.fault_outcome.ensures }
