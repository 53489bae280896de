-- The triangles are heights of the quads.
use Rattle.surface_quad_laws.proofs.LiftsAndLinks.{one_lift_with_links}
use Rattle.surface_quad_laws.proofs.quads_have_lifts.Goals as goal

pub returns : goal.returns
returns c = λ s ys k solution. let h = one_lift_with_links s k ys solution in (h.lift, (h.are).is_lift)
