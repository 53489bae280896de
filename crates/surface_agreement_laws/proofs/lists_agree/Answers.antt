-- Both lists are ascending and have the same vectors.
use Rattle.surface_agreement_laws.proofs.Lists.{lists_agree}
use Rattle.surface_agreement_laws.proofs.lists_agree.Goals as goal

pub returns : goal.returns
returns c = λ s standard octagon k one other. lists_agree s k standard octagon one other
