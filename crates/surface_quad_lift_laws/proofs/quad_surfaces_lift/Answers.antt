-- The lift is admissible if its quads are.
use Rattle.surface_quad_lift_laws.proofs.Correspondence.{one_surface}
use Rattle.surface_quad_lift_laws.proofs.quad_surfaces_lift.Goals as goal

pub returns : goal.returns
returns c = λ s links quad_rows xs k h equations solution admissible. one_surface s k links h quad_rows equations xs solution admissible
