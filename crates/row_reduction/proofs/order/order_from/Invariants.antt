use Rattle.std.proofs.Common.{vec_len}
use Rattle.row_reduction.proofs.order.order_from.Given as goal

abbrev pub decreases-loop-left : goal.decreases-loop-left
decreases-loop-left l = vec_len l.left
