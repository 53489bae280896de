-- The lemma is the law.
use Rattle.outcome_existence_laws.proofs.LeastExists.{least_exists}
use Rattle.outcome_existence_laws.proofs.least_relabellings_exist.Goals as goal

pub returns : goal.returns
returns c = least_exists
