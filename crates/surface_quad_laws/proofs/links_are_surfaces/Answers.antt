-- A gluing keeps the class, so there are equally many triangles on both sides.
use Rattle.surface_quad_laws.proofs.Canonical.{no_link_is_canonical}
use Rattle.surface_quad_laws.proofs.VertexLinks.{link_surface}
use Rattle.surface_quad_laws.proofs.links_are_surfaces.Goals as goal

pub returns : goal.returns
returns c = record { linking = λ s coords c k h. link_surface s k c coords h; no_canonical = no_link_is_canonical }
