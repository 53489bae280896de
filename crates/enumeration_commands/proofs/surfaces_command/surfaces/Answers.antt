-- The answer is that of the table of the document, and the reported error is that of the input.
use Rattle.std.proofs.lemmas.Result.{IfOk-weaker}
use Rattle.enumeration_commands.proofs.Answering.{document_listed}
use Rattle.command_answers.proofs.RefusalLines.{input_refused}
use Rattle.enumeration_commands.proofs.surfaces_command.surfaces.Goals as goal

pub returns-in-Ok : goal.returns-in-Ok
returns-in-Ok c = IfOk-weaker c.run_surfaces.result _ _ (λ o h. document_listed _ _ _ _ _ o c.in-Ok.ensures h) c.run_surfaces.ensures

pub returns-in-Err : goal.returns-in-Err
returns-in-Err c = IfOk-weaker c.fault_outcome.result _ _ (λ o h. input_refused _ c.in-Err.fault _ o c.in-Err.ensures h) c.fault_outcome.ensures
