-- The lemmas are the laws.
use Rattle.outcome_laws.proofs.Listed.{one_verdicts, one_surfaces}
use Rattle.outcome_laws.proofs.answers_agree.Goals as goal

pub returns : goal.returns
returns c = record { lists = one_surfaces; verdicts = one_verdicts }
