-- The lemma is the law.
use Rattle.presentation_laws.proofs.Existing.{some_presentation}
use Rattle.presentation_laws.proofs.presentations_exist.Goals as goal

pub returns : goal.returns
returns c = some_presentation
