use Rattle.std.proofs.Common.{below_more, arith}
use Rattle.skeleton.proofs.skeleton.Skeleton.first_invalid.Goals as goal

pub loop-class-preserved : goal.loop-class-preserved
loop-class-preserved c = below_more _ _ c.loop-class.invariant (c.is_valid_edge.ensures.valid.0 c.if-not-is_valid_edge.false)

pub returns : goal.returns
returns c k l = c.loop-class.invariant k (omega (arith, c.edges-class-end.ensures.count))
