-- The points, arcs and pieces of the components add up to those of the surface.
use Rattle.surface_quad_laws.proofs.Characteristics.{characteristics_add_up}
use Rattle.surface_quad_laws.proofs.component_characteristics_add_up.Goals as goal

pub returns : goal.returns
returns c = λ s coords xs listed whole parts l w k. characteristics_add_up s coords xs listed whole parts l w k
