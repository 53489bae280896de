-- What holds of all rows holds of them in another order.
use Rattle.std.proofs.lemmas.List.Sorted.{All-permutation}
use Rattle.cone_arithmetic.specs.Sparse.{IsInRange}
use Rattle.row_reduction.proofs.order.in_cheapest_order.Goals as goal

pub invariant_of-result : goal.invariant_of-result
invariant_of-result c = record { in_range = All-permutation (IsInRange c.args.list.columns) _ _ c.in_ok-rows.ensures c.args.list.in_range }
