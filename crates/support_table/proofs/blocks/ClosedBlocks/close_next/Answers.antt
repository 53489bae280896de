use Rattle.std.proofs.Common.{arith, refl}
use Rattle.support_table.proofs.BlockLemmas.{blocks_close}
use Rattle.support_table.proofs.blocks.ClosedBlocks.close_next.Goals as goal

pub returns-in_ok-push_block-clause-blocks : goal.returns-in_ok-push_block-clause-blocks
returns-in_ok-push_block-clause-blocks c =
    blocks_close _ _ c.args.self.now.closed _ _ _ _ c.requires.blocks refl (omega (arith, c.requires.blocks.most, c.if-count-first-ge-BLOCK.true)) c.in_ok-push_block.ensures.pushed
