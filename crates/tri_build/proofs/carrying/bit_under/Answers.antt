-- The bit of a vertex is at most 8.
use Rattle.pachner_moves.proofs.MaskLaws.{bit_low}
use Rattle.tri_build.proofs.carrying.bit_under.Goals as goal

pub returns-then-has-clause-limited : goal.returns-then-has-clause-limited
returns-then-has-clause-limited c = bit_low c.image-bit.result c.image-bit.ensures.in_range
