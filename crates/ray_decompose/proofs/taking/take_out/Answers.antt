use Rattle.std.proofs.Common.{sym, arith}
use Rattle.ray_decompose.proofs.Vectors.{is_difference}
use Rattle.ray_decompose.proofs.taking.take_out.Goals as goal

pub returns : goal.returns
returns c = is_difference _ _ _ _ _ (sym c.loop-column.invariant.size) c.args.taking.lengths (λ k l. c.loop-column.invariant.before k (omega arith))
