use Rattle.std.proofs.Common.{length, ◌∙◌}
use Rattle.support_table.proofs.ListLemmas.{singles_wide, hits_of}
use Rattle.support_table.proofs.candidates.candidates_of.Goals as goal

pub single_masks-requires-clause-columns : goal.single_masks-requires-clause-columns
single_masks-requires-clause-columns c =
    let chunk = c.args.chunk in
    rw c.deref-2.ensures.value (singles_wide chunk.search.rays.now chunk.search.outers.now chunk.chosen.now chunk.search.most c.in_ok-singles.singles.items c.in_ok-singles.ensures c.columns.result (c.columns.ensures ∙ chunk.copied.columns))

pub list_near-requires-clause-hits : goal.list_near-requires-clause-hits
list_near-requires-clause-hits c =
    let chunk = c.args.chunk in
    let singles = c.in_ok-singles.singles.items in
    let masks = rw c.deref-2.ensures.value at c.in_ok-masks.ensures in
    let bytes = rw c.deref-3.ensures.value at c.in_ok-hits.ensures in
    rw c.deref-5.ensures.value (hits_of chunk.search.rays.now chunk.search.outers.now chunk.chosen.now chunk.search.most singles c.in_ok-singles.ensures
    c.columns.result (length singles) c.in_ok-masks.masks.items c.in_ok-hits.hits.items (c.columns.ensures ∙ chunk.copied.columns) masks bytes)
