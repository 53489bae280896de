-- the flags of the signs so far
use Rattle.ray_steps.specs.Negatives.{AreNegativeFlags}
use Rattle.ray_steps.proofs.negatives.are_negative.Given as goal

abbrev pub invariant-loop-sign : goal.invariant-loop-sign
invariant-loop-sign l = AreNegativeFlags l.signs l.sign-index l.flags.items
