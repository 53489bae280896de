use Rattle.outcome_written_laws.proofs.Accepted.{accepted_are_certificates as are_certificates}
use Rattle.outcome_written_laws.proofs.accepted_are_certificates.Goals as goal

pub returns : goal.returns
returns c = are_certificates
