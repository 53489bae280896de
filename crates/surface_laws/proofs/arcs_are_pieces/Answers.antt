-- The arcs after those of the triangles are as many as the pieces of the one column that has them.
use Rattle.surface_laws.proofs.ComponentSurfaces.{piece_there}
use Rattle.surface_laws.proofs.arcs_are_pieces.Goals as goal

pub returns : goal.returns
returns c = λ rows coords xs a g s m. piece_there rows coords xs s a g m
