-- There are equally many triangles on both sides of a gluing, so their number is constant on a class.
use Rattle.surface_quad_laws.proofs.LinkSums.{linking_links}
use Rattle.surface_quad_laws.proofs.linking_solutions_are_links.Goals as goal

pub returns : goal.returns
returns c = λ s coords ys k h solution e. linking_links s k coords h ys solution e
