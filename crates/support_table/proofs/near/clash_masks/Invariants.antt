-- the bits of the outer rays so far
use Rattle.support_table.specs.Near.{AreClashMasks}
use Rattle.support_table.proofs.near.clash_masks.Given as goal

abbrev pub invariant-loop-b : goal.invariant-loop-b
invariant-loop-b l = AreClashMasks l.chunk.search.outers.now l.chunk.chosen.now l.chunk.search.rays.now.columns l.b l.masks.items
