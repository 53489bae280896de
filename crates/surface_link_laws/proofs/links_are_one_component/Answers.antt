-- Chains of gluings join the link's triangles to one another.
use Rattle.surface_link_laws.proofs.Described.{described}
use Rattle.surface_link_laws.proofs.links_are_one_component.Goals as goal

pub returns : goal.returns
returns c = λ s coords class link listed k h lc l are. described s coords class link listed k h lc l are
