-- One of the two quads, with the triangle that it meets, is a solution too.
use Rattle.surface_agreement_laws.proofs.Worked.{two_quads_vertex, two_quads_canonical, no_quad_vertex}
use Rattle.surface_agreement_laws.proofs.quads_need_be_no_vertex_surface.Goals as goal

pub returns : goal.returns
returns c = record { standard = two_quads_vertex; is_canonical = λ s k rows. two_quads_canonical s k; no_quad = no_quad_vertex }
