-- There is one lift, and a canonical solution is one.
use Rattle.surface_agreement_laws.proofs.OneOver.{one_over}
use Rattle.surface_agreement_laws.proofs.quad_vertex_surfaces_lift.Goals as goal

pub returns : goal.returns
returns c = λ s links quad_rows xs k kinds equations vertex. one_over s k links quad_rows xs kinds equations vertex
