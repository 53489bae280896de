-- All blocks are accepted, or the outcome names the first that is not.
use Rattle.std.proofs.lemmas.Result.{IfOk-weaker}
use Rattle.sum_commands.specs.Blocks.{all_blocks}
use Rattle.sum_commands.proofs.AddedUp.{all_accepted, one_refused}
use Rattle.sum_commands.proofs.addup_command.run_addup_with_system.Goals as goal

pub returns-in-Ok : goal.returns-in-Ok
returns-in-Ok c = IfOk-weaker c.accepted_outcome.result _ _
    (λ o e. all_accepted c.args.equations.coords c.args.equations.table.now c.args.equations.system.now.rows c.requires.equations (all_blocks c.args.blocks.now) o c.in-Ok.ensures e)
    c.accepted_outcome.ensures

pub returns-in-Err : goal.returns-in-Err
returns-in-Err c = IfOk-weaker c.refusal_outcome.result _ _
    (λ o e. one_refused c.args.equations.coords c.args.equations.table.now c.args.equations.system.now.rows c.requires.equations (all_blocks c.args.blocks.now) o
    c.in-Err.first.number c.in-Err.first.fault c.in-Err.ensures e)
    c.refusal_outcome.ensures
