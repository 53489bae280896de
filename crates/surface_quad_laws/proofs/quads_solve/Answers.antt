-- The triangles cancel around the edge, and what is left are its quads.
use Rattle.surface_quad_laws.proofs.QuadRows.{quads_solve}
use Rattle.surface_quad_laws.proofs.quads_solve.Goals as goal

pub returns : goal.returns
returns c = λ rows quad_rows xs table are solution. quads_solve rows xs table solution quad_rows are
