-- Each class has a lift.
use Rattle.surface_quad_lift_laws.proofs.Correspondence.{never_without}
use Rattle.surface_quad_lift_laws.proofs.none_without_lift.Goals as goal

pub returns : goal.returns
returns c = λ max s links quad_rows xs class k h equations solution answer. never_without s k links h quad_rows equations max xs class solution answer
