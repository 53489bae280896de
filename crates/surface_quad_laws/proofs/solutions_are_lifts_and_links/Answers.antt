-- The triangles are heights, and the lift is below them by one number at each class.
use Rattle.surface_quad_laws.proofs.LiftsAndLinks.{one_lift_with_links}
use Rattle.surface_quad_laws.proofs.solutions_are_lifts_and_links.Goals as goal

pub returns : goal.returns
returns c = λ s ys k solution. one_lift_with_links s k ys solution
