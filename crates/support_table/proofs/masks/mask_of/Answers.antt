use Rattle.std.proofs.Common.{◌*◌, arith, length}
use Rattle.support_table.proofs.MaskLemmas.{bytes_of_word, mark_none, mark_more, mark_all}
use Rattle.support_table.proofs.masks.mask_of.Goals as goal

pub loop-k-init : goal.loop-k-init
loop-k-init c masks all = mark_none masks c.args.words.now

pub loop-k-preserved : goal.loop-k-preserved
loop-k-preserved c masks all =
    let k = c.loop-k.k in
    let words = c.args.words.now in
    let table = c.args.table.now in
    mark_more masks words k c.loop-k.mask c.mask_of_word-mask.result (c.loop-k.invariant masks all)
    (c.mask_of_word-mask.ensures masks (64 * k) (bytes_of_word masks (8 * length words) k table all (omega (arith, c.loop-k-test.true))))

pub returns : goal.returns
returns c masks support all of = mark_all masks c.args.words.now c.loop-k.k c.loop-k.mask support (c.loop-k.invariant masks all) (omega (arith, c.loop-k-test.false)) of
