-- Each piece is in one component.
use Rattle.surface_laws.proofs.ComponentCounts.{components_add_up as all_add_up}
use Rattle.surface_laws.proofs.components_add_up.Goals as goal

pub returns : goal.returns
returns c = λ rows coords xs components count h column. all_add_up rows coords xs components count h column
