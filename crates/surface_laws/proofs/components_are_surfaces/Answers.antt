-- Meeting arcs are of one component.
use Rattle.surface_laws.proofs.ComponentSurfaces.{component_surface}
use Rattle.surface_laws.proofs.components_are_surfaces.Goals as goal

pub returns : goal.returns
returns c = λ rows coords xs components count i s h. component_surface rows coords xs s components count h i
