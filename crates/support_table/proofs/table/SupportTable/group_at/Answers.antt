use Rattle.std.proofs.Common.{arith}
use Rattle.support_table.proofs.BlockLemmas.{common_of_group, each_some}
use Rattle.support_table.proofs.table.SupportTable.group_at.Goals as goal

pub returns : goal.returns
returns c =
    each_some _ _ _ c.words_of.ensures (λ _ found. common_of_group _ _ _ _ _ _ _ c.args.place _ c.self.invariant c.self.view_is (omega arith) found)
