-- Quad solutions have lifts.
use Rattle.surface_octagon_laws.proofs.Correspondence.{octagons_correspond, one_octagon_solution}
use Rattle.surface_octagon_laws.proofs.octagon_solutions_correspond.Goals as goal

pub returns : goal.returns
returns c = record {
  parts = λ s links quad_rows xs k h equations. octagons_correspond s k links h quad_rows equations xs;
  one = λ s links quad_rows xs k h equations solution. one_octagon_solution s k links h quad_rows equations xs solution;
}
