use Rattle.std.proofs.Common.{arith}
use Rattle.support_table.proofs.SingleLemmas.{all_singles_none}
use Rattle.support_table.proofs.singles.no_singles.Goals as goal

pub returns : goal.returns
returns c =
    let chunk = c.args.chunk in
    all_singles_none chunk.search.rays.now chunk.search.outers.now chunk.chosen.now chunk.search.most c.loop-number.singles.items
    (let low = c.loop-number.auto._number-end in omega (arith, low, c.loop-number-test.false, c.loop-number.invariant.count)) c.loop-number.invariant.none
