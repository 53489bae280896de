-- the appended words have only bits of the supports so far
use Rattle.support_table.specs.Blocks.{AreCommonOf}
use Rattle.support_table.proofs.blocks.push_block.Given as goal

abbrev pub invariant-loop-k : goal.invariant-loop-k
invariant-loop-k l = AreCommonOf l.width l.first l.k l.words l.fn.blocks.items l.blocks.items
