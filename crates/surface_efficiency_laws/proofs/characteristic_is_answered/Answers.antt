-- Its terms are the vector's.
use Rattle.skeleton_definitions.specs.Links.{euler_of as euler}
use Rattle.std.proofs.Common.{◌∙◌}
use Rattle.surface_efficiency_laws.proofs.characteristic_is_answered.Goals as goal

pub returns : goal.returns
returns c = λ s coords xs p h. h.euler ∙ (λ i. euler (h.points i) (h.arcs i) (h.pieces i))
