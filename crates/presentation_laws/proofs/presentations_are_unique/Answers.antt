-- The lemma is the law.
use Rattle.presentation_laws.proofs.OnePresentation.{one_presentation}
use Rattle.presentation_laws.proofs.presentations_are_unique.Goals as goal

pub returns : goal.returns
returns c = one_presentation
