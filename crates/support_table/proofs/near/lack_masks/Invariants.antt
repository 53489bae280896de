-- the bits of the outer rays so far
use Rattle.support_table.specs.Near.{AreLackMasks}
use Rattle.support_table.proofs.near.lack_masks.Given as goal

abbrev pub invariant-loop-b : goal.invariant-loop-b
invariant-loop-b l = AreLackMasks l.chunk.search.outers.now l.chunk.chosen.now l.chunk.search.rays.now.columns l.b l.masks.items
