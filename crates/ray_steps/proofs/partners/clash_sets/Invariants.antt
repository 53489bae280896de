-- the pairs so far are in the sets
use Rattle.std.proofs.Common.{take}
use Rattle.ray_steps.specs.Partners.{AreClashSets}
use Rattle.ray_steps.proofs.partners.clash_sets.Given as goal

abbrev pub invariant-loop-pair : goal.invariant-loop-pair
invariant-loop-pair l = AreClashSets l.clashes.columns (take l.pair-index l.clashes.items.now) l.partners.items
