use Rattle.std.proofs.Common.{get_or, replicate, sym, ap, ◌∙◌}
use Rattle.std.proofs.lemmas.List.{get_or_default}
use Rattle.support_table.proofs.NearLemmas.{lack_none, lack_next}
use Rattle.support_table.proofs.near.lack_masks.Goals as goal

pub loop-b-init : goal.loop-b-init
loop-b-init c =
    let chunk = c.args.chunk in
    lack_none chunk.search.outers.now chunk.chosen.now chunk.search.rays.now.columns c.in_ok-masks.masks.items
    (c.in_ok-masks.ensures.items_if_clones_equal (λ y e. e) ∙ ap (λ n. replicate n 0) c.columns.ensures)

pub add_outside-requires-clause-columns : goal.add_outside-requires-clause-columns
add_outside-requires-clause-columns c =
    let chunk = c.args.chunk in
    let k = get_or chunk.chosen.now c.loop-b.b 0 in
    let within = chunk.are_outers c.loop-b.b 0 c.loop-b-test.true in
    chunk.search.are_outers.supports k c.index-search-k.result within ∙ sym c.loop-b.invariant.count

pub loop-b-preserved : goal.loop-b-preserved
loop-b-preserved c =
    let chunk = c.args.chunk in
    let outers = chunk.search.outers.now in
    let k = get_or chunk.chosen.now c.loop-b.b 0 in
    let within = chunk.are_outers c.loop-b.b 0 c.loop-b-test.true in
    let read = c.index-search-k.result in
    lack_next outers chunk.chosen.now chunk.search.rays.now.columns c.loop-b.b c.loop-b.masks.items _ (get_or outers k read).support c.loop-b.invariant
    (ap (λ o. o.support) (get_or_default outers k _ read within)) c.add_outside.ensures
