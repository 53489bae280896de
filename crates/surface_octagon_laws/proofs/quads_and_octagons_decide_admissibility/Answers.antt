-- Triangles clash with nothing.
use Rattle.surface_octagon_laws.proofs.Clashes.{entries_decide}
use Rattle.surface_octagon_laws.proofs.quads_and_octagons_decide_admissibility.Goals as goal

pub returns : goal.returns
returns c = λ n ys. entries_decide n ys
