use Rattle.std.proofs.Common.{◌*◌, length, arith}
use Rattle.support_table.proofs.OutsideLemmas.{bytes_of_word, lacked_none, lacked_more, lacked_all}
use Rattle.support_table.proofs.outside.two_of.Goals as goal

pub loop-k-init : goal.loop-k-init
loop-k-init c masks all = lacked_none masks c.args.words.now

pub loop-k-preserved : goal.loop-k-preserved
loop-k-preserved c masks all =
    let k = c.loop-k.k in
    let words = c.args.words.now in
    lacked_more masks words k c.loop-k.found c.outside_of_word.result c.both-found.result (c.loop-k.invariant masks all)
    (c.outside_of_word.ensures masks (64 * k) (bytes_of_word masks (8 * length words) k c.args.table.now all (omega (arith, c.loop-k-test.true)))) c.both-found.ensures

pub returns : goal.returns
returns c masks support all of = lacked_all masks c.args.words.now c.loop-k.k c.loop-k.found support (c.loop-k.invariant masks all) of
