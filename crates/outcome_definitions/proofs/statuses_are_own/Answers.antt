use Rattle.outcome_definitions.proofs.OwnStatus.{answer_own}
use Rattle.outcome_definitions.proofs.statuses_are_own.Goals as goal

pub returns : goal.returns
returns c = answer_own
