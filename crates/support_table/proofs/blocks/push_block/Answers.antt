use Rattle.std.proofs.Common.{◌+◌, ◌++◌, ap, ◌∙◌, arith}
use Rattle.support_table.specs.Blocks.{block_size}
use Rattle.support_table.proofs.BlockLemmas.{common_first, common_more}
use Rattle.support_table.proofs.TableLemmas.{part_within}
use Rattle.support_table.proofs.blocks.push_block.Goals as goal

pub loop-k-init : goal.loop-k-init
loop-k-init c =
    let within = part_within c.args.block.first (c.args.block.first + block_size) c.args.block.width (omega arith) in
    common_first _ _ _ _ _ (c.in_ok-extend_from_slice.ensures.items ∙ ap (λ part. c.args.blocks.now.items ++ part) c.part.ensures) (omega (arith, c.args.block.within))

pub loop-k-preserved : goal.loop-k-preserved
loop-k-preserved c =
    let within = part_within (c.args.block.first + c.loop-k.k) (c.args.block.first + block_size) c.args.block.width (omega arith) in
    common_more _ _ _ _ _ _ _ _ _ c.loop-k.invariant (c.len-start.ensures ∙ c.args.blocks.now.ok.0) c.keep_common.ensures c.part-in-loop-k.ensures (omega (arith, c.args.block.within))
