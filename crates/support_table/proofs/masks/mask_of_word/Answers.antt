use Rattle.std.proofs.Common.{◌≡◌, ◌+◌, ◌*◌, ◌/◌, ◌^◌, ◌<◌, bit_and, bit_or, get_or, refl, subst, arith}
use Rattle.support_table.proofs.BitLemmas.{byte_fits}
use Rattle.support_table.proofs.MaskLemmas.{IsMaskBelow, mask_below_none, mask_below_more, mask_below_all}
use Rattle.support_table.proofs.masks.mask_of_word.Goals as goal

pub loop-i-init : goal.loop-i-init
loop-i-init c masks first all = mask_below_none masks first c.args.word

pub loop-i-preserved : goal.loop-i-preserved
loop-i-preserved c masks first all =
    let i = c.loop-i.i in
    let within : i < 8 = omega (arith, c.loop-i-test.true) in
    let byte = bit_and (c.args.word / 2 ^ (8 * i)) 255 in
    let entry = get_or c.args.table.now (c.args.start + 256 * i + byte) 0 in
    let next : 8 * i + 8 ≡ 8 * (i + 1) = omega arith in
    subst (λ n. IsMaskBelow masks first c.args.word n (bit_or c.loop-i.mask entry)) next
    (mask_below_more masks first c.args.word (8 * i) i c.loop-i.mask byte entry (c.loop-i.invariant masks first all) refl within refl (all i byte within (byte_fits (c.args.word / 2 ^ (8 * i)))))

pub returns : goal.returns
returns c masks first all = mask_below_all masks first c.args.word (8 * c.loop-i.i) c.loop-i.mask (c.loop-i.invariant masks first all) (omega (arith, c.loop-i-test.false)) c.ranges.word.fits
