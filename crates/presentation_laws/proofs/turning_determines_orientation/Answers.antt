-- The lemma is the law.
use Rattle.presentation_laws.proofs.Orientable.{none_turns_exactly}
use Rattle.presentation_laws.proofs.turning_determines_orientation.Goals as goal

pub returns : goal.returns
returns c = λ s p h connected ip. none_turns_exactly s h connected p ip
