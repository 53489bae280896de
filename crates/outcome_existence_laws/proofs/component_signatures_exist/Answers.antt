-- The lemma is the law.
use Rattle.outcome_existence_laws.proofs.Ordering.{some_component_signature}
use Rattle.outcome_existence_laws.proofs.component_signatures_exist.Goals as goal

pub returns : goal.returns
returns c = some_component_signature
