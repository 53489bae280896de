-- The outcome names the step at which a number exceeds the limit.
use Rattle.std.proofs.Common.{◌≡◌, ℕ, List, ap, ◌∙◌, subst}
use Rattle.double_description.specs.declared.engine.LargeStep.{LargeStep}
use Rattle.outcome_definitions.specs.Enumerations.{large_outcome}
use Rattle.std.proofs.lemmas.Result.{IfOk-weaker}
use Rattle.outcome_definitions.specs.Makings.{IsGreatestEntry, summary_outcome}
use Rattle.certificate_commands.proofs.Summed.{listed_told, large_told}
use Rattle.certificate_commands.proofs.bulk_command.outcome_of_making.Goals as goal

pub returns-in-Ok : goal.returns-in-Ok
returns-in-Ok c = IfOk-weaker c.summary_outcome.result _ _
    (λ o reported. (let is = subst (λ (list : List (List ℕ)). (greatest : ℕ) × IsGreatestEntry list greatest × (o ≡ summary_outcome c.args.numbers list greatest)) c.deref.ensures.value reported in
    listed_told c.args.numbers c.args.table.now c.in-Ok.surfaces.items is.0 o c.in-Ok.ensures.ok is.1 is.2)) c.summary_outcome.ensures

pub returns-in-Err-Fault : goal.returns-in-Err-Fault
returns-in-Err-Fault c =
    let refused = rw c.in-Err-Fault.field-0-is at c.in-Err-Fault.ensures.err in
    let is = c.in-Err-Fault.large-is in
    let taken = c.deref-in-Err-Fault.ensures.value ∙ ap (λ (large : LargeStep). large.order.items) is in
    IfOk-weaker c.large_outcome.result _ _
    (λ o same. large_told c.args.numbers c.args.table.now c.in-Err-Fault.large o refused (same ∙ (λ i. large_outcome (taken i) (is i).kind))) c.large_outcome.ensures
