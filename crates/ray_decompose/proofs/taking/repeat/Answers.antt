use Rattle.std.proofs.Common.{arith}
use Rattle.ray_decompose.proofs.Vectors.{is_repeated}
use Rattle.ray_decompose.proofs.taking.repeat.Goals as goal

pub returns : goal.returns
returns c = is_repeated _ _ _ c.loop-term.auto.terms (λ k d l. c.loop-term.invariant.before k d (omega arith))
