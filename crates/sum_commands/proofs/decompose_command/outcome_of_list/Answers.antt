-- The outcome has the sums, or names the first that exceeds the limit.
use Rattle.std.proofs.Common.{Ok, Err, ℕ, List, ap, ◌∙◌, subst}
use Rattle.out_of_memory.specs.declared.Failure.{Failure}
use Rattle.std.proofs.lemmas.Result.{IfOk-weaker}
use Rattle.command_answers.specs.Reads.{all_entries}
use Rattle.outcome_definitions.specs.declared.Status.TheVariants.{Done}
use Rattle.sum_definitions.specs.declared.LargeTurn.{LargeTurn}
use Rattle.sum_commands.specs.declared.checks.FirstFault.{FirstFault}
use Rattle.sum_commands.specs.Telling.{WritesBlocks}
use Rattle.sum_commands.proofs.decompose_command.outcome_of_list.Goals as goal

pub returns-in-Ok : goal.returns-in-Ok
returns-in-Ok c = (Ok c.in-Ok.ensures.reported, c.in-Ok.ensures.sums, c.with_text.ensures ∙ ap (λ (t : List ℕ). record { status = Done; text = t }) c.in-Ok.ensures.lines)

pub returns-in-Err-Fault : goal.returns-in-Err-Fault
returns-in-Err-Fault c = IfOk-weaker c.refusal_outcome.result _ _
    (λ o e. (
      Err (c.in-Err-Fault.first.number, c.in-Err-Fault.first.fault),
      subst (λ (f : Failure (FirstFault LargeTurn)). WritesBlocks c.args.limit.number c.args.list.now c.args.table.now (all_entries c.args.vectors.now) (Err f)) c.in-Err-Fault.field-0-is c.in-Err-Fault.ensures,
      e,
    ))
    c.refusal_outcome.ensures
