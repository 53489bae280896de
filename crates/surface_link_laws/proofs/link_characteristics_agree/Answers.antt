-- If no edge is invalid, no edge class is counted twice.
use Rattle.surface_link_laws.proofs.Agreement.{vertices_and_euler}
use Rattle.surface_link_laws.proofs.link_characteristics_agree.Goals as goal

pub returns : goal.returns
returns c = λ s coords class link p k h valid l are. vertices_and_euler s coords class link p k h l are valid
