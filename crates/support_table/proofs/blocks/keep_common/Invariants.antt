-- the words so far have the common bits alone, and the others are unchanged
use Rattle.support_table.specs.Blocks.{KeepsCommon}
use Rattle.support_table.proofs.blocks.keep_common.Given as goal

abbrev pub invariant-loop-k : goal.invariant-loop-k
invariant-loop-k l = KeepsCommon l.start l.k l.words l.fn.blocks.items l.blocks.items
