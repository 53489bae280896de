-- Each class has a lift, and lifts of all classes are a lift of the vector.
use Rattle.surface_quad_lift_laws.proofs.Correspondence.{correspond, one_solution}
use Rattle.surface_quad_lift_laws.proofs.solutions_correspond.Goals as goal

pub returns : goal.returns
returns c = record {
  parts = λ s links quad_rows xs k h equations. correspond s k links h quad_rows equations xs;
  one = λ s links quad_rows xs k h equations solution. one_solution s k links h quad_rows equations xs solution;
}
