-- The bit of a vertex is at most 8, so the mask of the other vertices is positive.
use Rattle.std.proofs.Common.{arith}
use Rattle.pachner_moves.proofs.MaskLaws.{bit_low}
use Rattle.pachner_moves.proofs.cores.Core.opposite_face.Goals as goal

pub overflow_sub-v : goal.overflow_sub-v
overflow_sub-v c = omega (arith, bit_low c.args.v c.requires)

pub of_mask-requires-clause-some : goal.of_mask-requires-clause-some
of_mask-requires-clause-some c = omega (arith, bit_low c.args.v c.requires)
