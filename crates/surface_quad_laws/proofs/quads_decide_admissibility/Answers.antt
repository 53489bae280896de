-- Two quads clash in quad coordinates if and only if they clash in standard ones.
use Rattle.surface_quad_laws.proofs.QuadClashes.{quads_decide}
use Rattle.surface_quad_laws.proofs.quads_decide_admissibility.Goals as goal

pub returns : goal.returns
returns c = λ n xs. quads_decide n xs
