-- Both vectors are sums of the same lift and links.
use Rattle.surface_quad_laws.proofs.LiftsAndLinks.{differ_by_links}
use Rattle.surface_quad_laws.proofs.same_quads_differ_by_links.Goals as goal

pub returns : goal.returns
returns c = λ s ys zs k one other e. differ_by_links s k ys zs one other e
