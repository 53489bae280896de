-- The lemmas are the laws.
use Rattle.surface_relabelling_laws.proofs.ConnectedSurfaces.{components_relabelled, component_eulers}
use Rattle.surface_relabelling_laws.proofs.components_are_relabelled.Goals as goal

pub returns : goal.returns
returns c = record { components = components_relabelled; characteristics = component_eulers }
