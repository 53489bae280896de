use Rattle.outcome_written_laws.proofs.Accepted.{certificates_accepted, reached_accepted, made_accepted}
use Rattle.outcome_written_laws.proofs.certificates_are_accepted.Goals as goal

pub returns-clause-certificates : goal.returns-clause-certificates
returns-clause-certificates c = certificates_accepted

pub returns-clause-descents : goal.returns-clause-descents
returns-clause-descents c = reached_accepted

pub returns-clause-makings : goal.returns-clause-makings
returns-clause-makings c = made_accepted
