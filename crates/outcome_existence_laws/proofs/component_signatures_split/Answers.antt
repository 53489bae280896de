-- The lemma is the law.
use Rattle.outcome_existence_laws.proofs.Splitting.{signatures_split}
use Rattle.outcome_existence_laws.proofs.component_signatures_split.Goals as goal

pub returns : goal.returns
returns c = signatures_split
