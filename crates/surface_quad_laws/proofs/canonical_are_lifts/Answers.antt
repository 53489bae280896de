-- Each condition of a lift is one of a canonical solution.
use Rattle.surface_quad_laws.specs.SolutionLaws.{quads_of}
use Rattle.surface_quad_laws.proofs.Canonical.{canonical_lift, lift_canonical}
use Rattle.surface_quad_laws.proofs.canonical_are_lifts.Goals as goal

pub returns : goal.returns
returns c = λ s ys k solution. (canonical_lift s k ys solution, lift_canonical s k (quads_of s ys) ys)
