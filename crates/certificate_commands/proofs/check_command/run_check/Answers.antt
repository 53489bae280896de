-- The outcome of the check is the answer.
use Rattle.std.proofs.Common.{Ok, Err}
use Rattle.std.proofs.lemmas.Result.{IfOk-weaker}
use Rattle.sphere_certificate.specs.Checks.{reported}
use Rattle.certificate_commands.proofs.check_command.run_check.Goals as goal

pub returns-in-Ok : goal.returns-in-Ok
returns-in-Ok c = IfOk-weaker c.accepted_outcome.result _ _ (λ o e. record { reported = Ok tt; checked = c.in-Ok.ensures.certificate; outcome = e }) c.accepted_outcome.ensures

pub returns-in-Err-Fault : goal.returns-in-Err-Fault
returns-in-Err-Fault c =
    let refused = rw c.in-Err-Fault.field-0-is at c.in-Err-Fault.ensures.fault in
    IfOk-weaker c.refused_outcome.result _ _ (λ o e. record { reported = Err (reported c.in-Err-Fault.fault); checked = refused; outcome = e }) c.refused_outcome.ensures
