use Rattle.std.proofs.Common.{sym, subst}
use Rattle.support_table.specs.Blocks.{AreBlocks}
use Rattle.support_table.proofs.BlockLemmas.{table_blocks, table_groups}
use Rattle.support_table.proofs.table.SupportTable.close_blocks.Goals as goal

pub close_next-requires-2-clause-blocks : goal.close_next-requires-2-clause-blocks
close_next-requires-2-clause-blocks c =
    let closed = table_blocks _ _ _ _ _ _ _ c.close_next.new.self c.self.invariant c.deref.ensures.value c.close_next.ensures.blocks c.close_next.ensures.closed c.close_next.ensures.words in
    subst (λ words. AreBlocks c.self.inside.width c.close_next.new.self.closed c.self.inside.groups.closed words c.self.inside.groups.words.items) (sym c.deref-2.ensures.value) closed.grouped

pub invariant_of-self : goal.invariant_of-self
invariant_of-self c = table_blocks _ _ _ _ _ _ _ c.close_next.new.self c.self.invariant c.deref.ensures.value c.close_next.ensures.blocks c.close_next.ensures.closed c.close_next.ensures.words

pub invariant_of-self-2 : goal.invariant_of-self-2
invariant_of-self-2 c =
    let closed = table_blocks _ _ _ _ _ _ _ c.close_next.new.self c.self.invariant c.deref.ensures.value c.close_next.ensures.blocks c.close_next.ensures.closed c.close_next.ensures.words in
    table_groups _ _ _ _ _ _ _ c.close_next-2.new.self closed c.deref-2.ensures.value c.close_next-2.ensures.blocks
