-- The lemma is the law.
use Rattle.presentation_laws.proofs.Walks.{relators_turn_evenly}
use Rattle.presentation_laws.proofs.relators_turn_evenly.Goals as goal

pub returns : goal.returns
returns c = λ s p h connected ip. relators_turn_evenly s h connected p ip
