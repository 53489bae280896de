use Rattle.outcome_written_laws.proofs.ReadAgain.{decomposed_told}
use Rattle.outcome_written_laws.proofs.decompositions_are_answered.Goals as goal

pub returns : goal.returns
returns c = decomposed_told
