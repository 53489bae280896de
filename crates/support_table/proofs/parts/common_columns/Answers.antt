use Rattle.std.proofs.Common.{get_or}
use Rattle.std.proofs.lemmas.List.{get_or_default}
use Rattle.support_table.proofs.PartLemmas.{common_next}
use Rattle.support_table.proofs.parts.common_columns.Goals as goal

pub loop-k-preserved : goal.loop-k-preserved
loop-k-preserved c =
    let search = c.args.search in
    let outers = search.outers.now in
    let chosen = c.args.chosen.now in
    let n = c.loop-k.k-index in
    let k = get_or chosen n 0 in
    let within = c.requires n 0 c.loop-k-test.true in
    let read = c.index-search-k.result in
    common_next outers chosen search.rays.now.columns n c.loop-k.common.items _ c.words.result.now (get_or outers k read) c.loop-k.invariant c.loop-k-test.true
    (get_or_default outers k _ read within) (search.are_outers.joined k read within) c.words.ensures c.keep_common.ensures
