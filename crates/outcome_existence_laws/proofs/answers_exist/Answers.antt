-- The lemmas are the laws.
use Rattle.outcome_existence_laws.proofs.Answers.{some_signature_answer, some_same_answer}
use Rattle.outcome_existence_laws.proofs.answers_exist.Goals as goal

pub returns : goal.returns
returns c = record { signature = some_signature_answer; same = some_same_answer }
