use Rattle.std.proofs.Common.{◌+◌, ◌*◌, ◌/◌, ◌^◌, bit_and, refl, arith}
use Rattle.support_table.specs.Outside.{outside_at}
use Rattle.support_table.proofs.BitLemmas.{byte_fits}
use Rattle.support_table.proofs.OutsideLemmas.{below_none, below_more, below_all}
use Rattle.support_table.proofs.outside.outside_of_word.Goals as goal

pub loop-i-init : goal.loop-i-init
loop-i-init c masks first all = below_none masks first c.args.word

pub loop-i-preserved : goal.loop-i-preserved
loop-i-preserved c masks first all =
    let i = c.loop-i.i in
    let byte = bit_and (c.args.word / 2 ^ (8 * i)) 255 in
    let entry = outside_at c.args.table.now (c.args.start + 256 * i + byte) in
    below_more masks first c.args.word i byte c.loop-i.found entry c.both-found.result (c.loop-i.invariant masks first all) refl (all i byte (omega (arith, c.loop-i-test.true)) (byte_fits (c.args.word / 2 ^ (8 * i)))) c.both-found.ensures

pub returns : goal.returns
returns c masks first all = below_all masks first c.args.word (8 * c.loop-i.i) c.loop-i.found (c.loop-i.invariant masks first all) (let low = c.loop-i.auto.i-end in omega (arith, low))
