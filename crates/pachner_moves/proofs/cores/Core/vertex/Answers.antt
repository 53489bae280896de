-- The bit of a vertex is its mask.
use Rattle.std.proofs.Common.{◌∙◌, arith}
use Rattle.pachner_moves.proofs.MaskLaws.{bit_low, one_vertex}
use Rattle.pachner_moves.proofs.cores.Core.vertex.Goals as goal

pub of_mask-requires-clause-four_bits : goal.of_mask-requires-clause-four_bits
of_mask-requires-clause-four_bits c = omega (arith, bit_low c.args.v c.requires)

pub returns : goal.returns
returns c = c.of_mask.ensures ∙ one_vertex c.args.v c.requires
