-- the bits of the outer rays so far
use Rattle.support_table.specs.Singles.{AreSingleMasks}
use Rattle.support_table.proofs.singles.single_masks.Given as goal

abbrev pub invariant-loop-b : goal.invariant-loop-b
invariant-loop-b l = AreSingleMasks l.singles l.columns l.b l.masks.items
