-- The answer is the list, or names the step at which a number exceeds the limit.
use Rattle.std.proofs.Common.{ℕ, List, ap, ◌∙◌}
use Rattle.std.specs.Prelude.{codes}
use Rattle.outcome_definitions.specs.Enumerations.{list_outcome, large_outcome}
use Rattle.std.proofs.lemmas.Result.{IfOk-weaker}
use Rattle.enumeration_commands.proofs.Answering.{table_listed, table_large}
use Rattle.enumeration_commands.proofs.surfaces_command.run_surfaces.Goals as goal

pub returns-in-Ok : goal.returns-in-Ok
returns-in-Ok c = IfOk-weaker c.list_outcome.result _ _
    (λ o same. table_listed _ _ _ _ c.in-Ok.surfaces.items o c.in-Ok.ensures.ok (same ∙ ap (list_outcome (codes "surfaces")) c.deref.ensures.value)) c.list_outcome.ensures

pub returns-in-Err-Fault : goal.returns-in-Err-Fault
returns-in-Err-Fault c = let refused = rw c.in-Err-Fault.field-0-is at c.in-Err-Fault.ensures.err in IfOk-weaker c.large_outcome.result _ _
    (λ o same. table_large _ _ _ _ c.in-Err-Fault.large o refused
    (same ∙ ap (λ (taken : List ℕ). large_outcome taken c.in-Err-Fault.large.kind) c.deref-in-Err-Fault.ensures.value)) c.large_outcome.ensures
