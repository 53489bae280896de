-- The lemma is the law.
use Rattle.outcome_answer_laws.proofs.Covers.{covers_told}
use Rattle.outcome_answer_laws.proofs.covers_are_answered.Goals as goal

pub returns : goal.returns
returns c = covers_told
