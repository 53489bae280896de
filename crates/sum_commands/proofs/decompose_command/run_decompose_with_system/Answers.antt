-- The outcome names the first vector that is refused, or has the sums by the list of the vertex surfaces, or names the
-- step that exceeds the limit.
use Rattle.std.proofs.Common.{ℕ, List, sym, ap, ◌∙◌, subst}
use Rattle.outcome_definitions.specs.Enumerations.{large_outcome}
use Rattle.std.proofs.lemmas.Result.{IfOk-weaker}
use Rattle.command_answers.specs.Reads.{all_entries}
use Rattle.sum_commands.specs.Telling.{HaveRays, IsBlocksOutcome}
use Rattle.sum_commands.proofs.Decomposed.{have_rays, unfit_told, sums_told, past_told}
use Rattle.sum_commands.proofs.decompose_command.run_decompose_with_system.Goals as goal

pub returns-in-Err : goal.returns-in-Err
returns-in-Err c = IfOk-weaker c.refusal_outcome.result _ _
    (λ o e. unfit_told c.args.equations.coords c.args.equations.table.now c.args.equations.system.now.rows c.requires.equations c.args.limit.number (all_entries c.args.vectors.now)
    c.in-Err.first.number c.in-Err.first.fault o c.in-Err.ensures e)
    c.refusal_outcome.ensures

pub outcome_of_list-requires-clause-rays : goal.outcome_of_list-requires-clause-rays
outcome_of_list-requires-clause-rays c =
    subst (λ (list : List (List ℕ)). HaveRays c.args.equations.system.now list (all_entries c.args.vectors.now)) (sym c.deref.ensures.value)
    (have_rays c.args.equations.coords c.args.equations.table.now c.args.equations.system.now.rows c.requires.equations c.args.limit.number
    c.args.equations.system.now.columns c.in-Ok.list.items (all_entries c.args.vectors.now) c.args.equations.columns c.in-Ok.ensures.ok c.in_default.ensures)

pub returns-in-Ok : goal.returns-in-Ok
returns-in-Ok c = IfOk-weaker c.outcome_of_list.result _ _
    (λ o t. sums_told c.args.equations.coords c.args.equations.table.now c.args.equations.system.now.rows c.requires.equations c.args.limit.number
    c.in-Ok.list.items (all_entries c.args.vectors.now) o c.in-Ok.ensures.ok c.in_default.ensures
    (subst (λ (list : List (List ℕ)). IsBlocksOutcome c.args.limit.number list c.args.equations.table.now (all_entries c.args.vectors.now) o) c.deref.ensures.value t))
    c.outcome_of_list.ensures

pub returns-in-Err-Fault : goal.returns-in-Err-Fault
returns-in-Err-Fault c = let refused = rw c.in-Err-Fault.field-0-is at c.in-Err-Fault.ensures.err in
    let taken = rw c.in-Err-Fault.field-0-is at c.deref-in-Err-Fault.ensures.value in IfOk-weaker c.large_outcome.result _ _
    (λ o e. past_told c.args.equations.coords c.args.equations.table.now c.args.equations.system.now.rows c.requires.equations c.args.limit.number
    c.in-Err-Fault.large (all_entries c.args.vectors.now) o refused c.in_default.ensures
    (e ∙ ap (λ (rows : List ℕ). large_outcome rows c.in-Err-Fault.large.kind) taken))
    (rw c.in-Err-Fault.field-0-is at c.large_outcome.ensures)
