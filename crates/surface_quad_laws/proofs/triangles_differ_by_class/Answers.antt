-- The difference of two families of heights is constant along each chain.
use Rattle.surface_quad_laws.proofs.Differences.{one_integer}
use Rattle.surface_quad_laws.proofs.triangles_differ_by_class.Goals as goal

pub returns : goal.returns
returns c = λ s ys zs class k one other e lc. one_integer s k ys zs class one other e lc
