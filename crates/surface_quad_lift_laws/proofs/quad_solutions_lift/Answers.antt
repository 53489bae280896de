-- The triangles are joined by a tree of sides, and the ends by a tree of other sides: these are all sides.
use Rattle.surface_quad_lift_laws.proofs.SpheresAndDiscs.{link_lift}
use Rattle.surface_quad_lift_laws.proofs.quad_solutions_lift.Goals as goal

pub returns : goal.returns
returns c = λ s c link quad_rows xs k lc has simple equations solution. link_lift s c k lc link has quad_rows equations xs solution simple
