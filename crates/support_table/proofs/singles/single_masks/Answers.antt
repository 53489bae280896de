use Rattle.std.proofs.Common.{[], get_or, length, sym, ap, ◌∙◌}
use Rattle.std.proofs.lemmas.List.{get_or_default}
use Rattle.support_table.proofs.MaskLemmas.{masks_none, masks_next}
use Rattle.support_table.proofs.singles.single_masks.Goals as goal

pub loop-b-init : goal.loop-b-init
loop-b-init c = masks_none (λ b. get_or c.args.singles.now b []) c.args.columns c.in_ok-masks.masks.items (c.in_ok-masks.ensures.items_if_clones_equal (λ y e. e))

pub add_mask-requires-clause-columns : goal.add_mask-requires-clause-columns
add_mask-requires-clause-columns c = ap length c.index-singles-b.is ∙ c.requires.columns c.loop-b.b c.index-singles-b.result c.loop-b-test.true ∙ sym c.loop-b.invariant.count

pub loop-b-preserved : goal.loop-b-preserved
loop-b-preserved c =
    let singles = c.args.singles.now in
    masks_next (λ b. get_or singles b []) c.args.columns c.loop-b.b c.loop-b.masks.items _ c.index-singles-b.result c.loop-b.invariant
    (get_or_default singles c.loop-b.b [] c.index-singles-b.result c.loop-b-test.true ∙ sym c.index-singles-b.is) c.add_mask.ensures
