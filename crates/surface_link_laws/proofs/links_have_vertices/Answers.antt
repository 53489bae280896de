-- Each edge has two ends, which are two vertices of the link or, if the edge is invalid, one.
use Rattle.surface_link_laws.proofs.Agreement.{vertices_and_more}
use Rattle.surface_link_laws.proofs.links_have_vertices.Goals as goal

pub returns : goal.returns
returns c = λ s coords class link p k h l are. vertices_and_more s coords class link p k h l are
