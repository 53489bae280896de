-- Arcs are sides, and pieces are triangles.
use Rattle.surface_link_laws.proofs.Agreement.{edges_and_triangles}
use Rattle.surface_link_laws.proofs.links_have_edges_and_triangles.Goals as goal

pub returns : goal.returns
returns c = λ s coords class link p k h l are. edges_and_triangles s coords class link p k h l are
