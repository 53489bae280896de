-- A solution inside a link has no quads, so it is a multiple of the link.
use Rattle.surface_agreement_laws.proofs.LinkSurfaces.{link_vertex}
use Rattle.surface_agreement_laws.proofs.links_are_vertex_surfaces.Goals as goal

pub returns : goal.returns
returns c = λ s coords class k h lc. link_vertex s k coords h class lc
