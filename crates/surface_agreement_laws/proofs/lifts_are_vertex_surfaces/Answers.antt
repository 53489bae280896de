-- A solution inside the lift has its quads inside the vertex surface, so they are on its ray, and the triangles follow.
use Rattle.surface_agreement_laws.proofs.LiftedSurfaces.{lift_vertex}
use Rattle.surface_agreement_laws.proofs.lifts_are_vertex_surfaces.Goals as goal

pub returns : goal.returns
returns c = λ s quad_rows xs lift k equations vertex l. lift_vertex s k quad_rows equations xs lift vertex l
