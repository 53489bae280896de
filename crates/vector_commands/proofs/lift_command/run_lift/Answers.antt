-- The lifts are printed, or the outcome names the first vector that is refused.
use Rattle.std.proofs.Common.{Err, subst}
use Rattle.out_of_memory.specs.declared.Failure.{Failure}
use Rattle.cone_text_definitions.specs.VectorText.{vector_text}
use Rattle.surface_vector_definitions.specs.Answers.{IsLifted}
use Rattle.vector_commands.specs.Telling.{WritesAnswers}
use Rattle.vector_commands.specs.declared.refusals.FirstRefusal.{FirstRefusal}
use Rattle.std.proofs.lemmas.Result.{IfOk-weaker}
use Rattle.command_answers.specs.Reads.{all_entries}
use Rattle.vector_commands.proofs.LiftAnswers.{lifts_told, lift_refused}
use Rattle.vector_commands.proofs.lift_command.run_lift.Goals as goal

pub returns-in-Ok : goal.returns-in-Ok
returns-in-Ok c =
    lifts_told c.in_ok-skeleton.skeleton c.args.table c.in_ok-system.system.rows (all_entries c.args.vectors.now) c.with_text.result
    c.in_ok-skeleton.ensures.rows c.in_ok-skeleton.ensures.skeleton c.in_ok-system.ensures.equations c.in-Ok.text.items c.in-Ok.ensures c.with_text.ensures

pub returns-in-Err-Fault : goal.returns-in-Err-Fault
returns-in-Err-Fault c = IfOk-weaker c.refusal_outcome.result _ _
    (λ o h. lift_refused c.in_ok-skeleton.skeleton c.args.table c.in_ok-system.system.rows (all_entries c.args.vectors.now) o
    c.in_ok-skeleton.ensures.rows c.in_ok-skeleton.ensures.skeleton c.in_ok-system.ensures.equations c.in-Err-Fault.first.vector c.in-Err-Fault.first.refusal (subst (λ (e : Failure FirstRefusal). WritesAnswers (IsLifted c.in_ok-skeleton.skeleton c.in_ok-system.system.rows) vector_text (all_entries c.args.vectors.now) (Err e)) c.in-Err-Fault.field-0-is c.in-Err-Fault.ensures) h)
    c.refusal_outcome.ensures
