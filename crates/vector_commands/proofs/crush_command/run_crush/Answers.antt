-- The crushed table is printed, or the reason why the vector is refused.
use Rattle.std.proofs.Common.{sym}
use Rattle.std.proofs.lemmas.Result.{IfOk-weaker}
use Rattle.vector_commands.proofs.CrushAnswers.{crushed_told, unfit_told}
use Rattle.vector_commands.proofs.crush_command.run_crush.Goals as goal

pub returns-in-Ok : goal.returns-in-Ok
returns-in-Ok c = IfOk-weaker c.outcome_of_crushing.result _ _
    (λ o h. crushed_told c.args.table.now c.in_ok-system.system.rows c.args.x.now o c.in_ok-system.ensures.equations (sym c.in-Ok.ensures.verdict) h)
    c.outcome_of_crushing.ensures

pub returns : goal.returns
returns c = IfOk-weaker c.refusal_outcome.result _ _
    (λ o h. unfit_told c.args.table.now c.in_ok-system.system.rows c.args.x.now o c.in_ok-system.ensures.equations c.in-Err.fault (sym c.in-Err.ensures.verdict) h)
    c.refusal_outcome.ensures
