-- The lift is the one canonical vector over its quads.
use Rattle.surface_octagon_laws.proofs.Correspondence.{one_octagon_surface}
use Rattle.surface_octagon_laws.proofs.quad_octagon_surfaces_lift.Goals as goal

pub returns : goal.returns
returns c = λ s links quad_rows xs k h equations solution a. one_octagon_surface s k links h quad_rows equations xs solution a
