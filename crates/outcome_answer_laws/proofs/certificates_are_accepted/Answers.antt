-- The lemmas are the laws.
use Rattle.outcome_answer_laws.proofs.Checks.{certificates_accepted, done_where_certified}
use Rattle.outcome_answer_laws.proofs.certificates_are_accepted.Goals as goal

pub returns : goal.returns
returns c = record { accepted = certificates_accepted; done = done_where_certified }
