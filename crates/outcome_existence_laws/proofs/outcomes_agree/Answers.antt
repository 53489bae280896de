-- The lemma is the law.
use Rattle.outcome_existence_laws.proofs.EachAnswer.{outcomes_agree_lem}
use Rattle.outcome_existence_laws.proofs.outcomes_agree.Goals as goal

pub returns : goal.returns
returns c = outcomes_agree_lem
