-- The lemmas are the laws.
use Rattle.surface_efficiency_laws.proofs.Positives.{positive_inside}
use Rattle.surface_efficiency_laws.proofs.Efficiency.{component_has_listed}
use Rattle.surface_efficiency_laws.proofs.positive_surfaces_have_listed.Goals as goal

pub returns : goal.returns
returns c = record { surfaces = positive_inside; components = component_has_listed }
