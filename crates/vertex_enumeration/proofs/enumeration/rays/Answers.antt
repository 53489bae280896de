use Rattle.vertex_enumeration.proofs.Bounded.{always_within}
use Rattle.vertex_enumeration.proofs.enumeration.rays.Goals as goal

pub vertex_list-requires-clause-bounded : goal.vertex_list-requires-clause-bounded
vertex_list-requires-clause-bounded c fit = always_within c.args.system.now c.args.order.rule c.args.limit.number (c.in_ok-is_bounded.ensures.bounded fit)
