-- The outcome of the descent is the answer.
use Rattle.std.proofs.Common.{Ok, Err}
use Rattle.std.proofs.lemmas.Result.{IfOk-weaker}
use Rattle.certificate_commands.proofs.descend_command.run_descend.Goals as goal

pub returns-in-Ok : goal.returns-in-Ok
returns-in-Ok c =
    IfOk-weaker c.outcome_of_descent.result _ _
    (λ o e. record {
      reported = Ok (record { reached = c.in-Ok.descent.reached; moves = c.in-Ok.descent.moves.items; table = c.in-Ok.descent.table });
      descended = (c.in-Ok.ensures.connected, c.in-Ok.ensures.descent);
      outcome = e;
    })
    c.outcome_of_descent.ensures

pub returns-in-Err-Fault : goal.returns-in-Err-Fault
returns-in-Err-Fault c =
    IfOk-weaker c.not_connected_outcome.result _ _
    (λ o e. record {
      reported = Err c.in-Err-Fault.fault.tet;
      descended = rw c.in-Err-Fault.field-0-is at c.in-Err-Fault.ensures.fault;
      outcome = e;
    })
    c.not_connected_outcome.ensures
