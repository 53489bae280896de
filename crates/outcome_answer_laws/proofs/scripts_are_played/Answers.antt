-- The lemma is the law.
use Rattle.outcome_answer_laws.proofs.Scripts.{scripts_played}
use Rattle.outcome_answer_laws.proofs.scripts_are_played.Goals as goal

pub returns : goal.returns
returns c = scripts_played
