-- The cover is printed, or that it would have too many tetrahedra.
use Rattle.std.proofs.lemmas.Result.{IfOk-weaker}
use Rattle.topology_commands.proofs.Telling.{cover_answer, large_answer}
use Rattle.topology_commands.proofs.cover_command.run_cover_on_skeleton.Goals as goal

pub returns-in-Ok : goal.returns-in-Ok
returns-in-Ok c = IfOk-weaker c.outcome_of_cover.result _ _ (λ o t. cover_answer c.args.skeleton.now.rows _ o c.in-Ok.ensures.cover c.in-Ok.ensures.fits t) c.outcome_of_cover.ensures

pub returns-in-Err-Fault : goal.returns-in-Err-Fault
returns-in-Err-Fault c = IfOk-weaker c.too_many.result _ _ (λ o t. large_answer c.args.skeleton.now.rows c.in-Err-Fault.field-0 c.in-Err-Fault.field-0-0 o
    c.in-Err-Fault.field-0-is c.in-Err-Fault.ensures.fault t) c.too_many.ensures
