-- The lemmas are the laws.
use Rattle.outcome_existence_laws.proofs.EachAnswer.{some_answer_to, some_outcome, one_outcome}
use Rattle.outcome_existence_laws.proofs.each_input_is_answered.Goals as goal

pub returns : goal.returns
returns c = record { requests = some_answer_to; words = some_outcome; once = one_outcome }
