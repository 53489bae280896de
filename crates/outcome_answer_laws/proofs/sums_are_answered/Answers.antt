-- The lemmas are the laws.
use Rattle.outcome_answer_laws.proofs.Sums.{vectors_decomposed, true_sums_accepted}
use Rattle.outcome_answer_laws.proofs.sums_are_answered.Goals as goal

pub returns : goal.returns
returns c = record { decompose = vectors_decomposed; addup = true_sums_accepted }
