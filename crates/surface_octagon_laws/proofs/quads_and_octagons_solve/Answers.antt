-- They are the quads of a standard solution.
use Rattle.surface_octagon_laws.proofs.AsQuads.{entries_solve}
use Rattle.surface_octagon_laws.proofs.quads_and_octagons_solve.Goals as goal

pub returns : goal.returns
returns c = λ s quad_rows ys k equations solution. entries_solve s k quad_rows ys equations solution
