use Rattle.outcome_written_laws.proofs.Lengths.{written_moves_short}
use Rattle.outcome_written_laws.proofs.AcceptedByCheck.{check_accepts_certificates, check_accepts_descents, check_accepts_made}
use Rattle.outcome_written_laws.proofs.check_accepts_certificates.Goals as goal

pub returns-clause-short : goal.returns-clause-short
returns-clause-short c = written_moves_short

pub returns-clause-certificates : goal.returns-clause-certificates
returns-clause-certificates c = check_accepts_certificates

pub returns-clause-descents : goal.returns-clause-descents
returns-clause-descents c = check_accepts_descents

pub returns-clause-made : goal.returns-clause-made
returns-clause-made c = check_accepts_made
