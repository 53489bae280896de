use Rattle.std.proofs.Common.{◌≡◌, ◌*◌, ◌%◌, ◌^◌, ◌<◌, length, subst, sym, arith}
use Rattle.std.proofs.lemmas.Nat.{one_shl}
use Rattle.support_table.proofs.OutsideLemmas.{IsByteBelow, byte_none, byte_more, byte_all}
use Rattle.support_table.proofs.outside.push_byte.Goals as goal

pub loop-j-init : goal.loop-j-init
loop-j-init c = subst (IsByteBelow c.args.masks.now c.args.first 0 c.args.table.now.items) (sym c.in_ok-push.ensures.items) (byte_none c.args.masks.now c.args.first c.args.table.now.items)

pub loop-j-preserved : goal.loop-j-preserved
loop-j-preserved c =
    let j = c.loop-j.j in
    let within : j < 8 = omega (arith, c.loop-j-test.true) in
    let count : 1 * 2 ^ j % 2 ^ 64 ≡ 2 ^ j = one_shl j 64 (omega (arith, within)) in
    let start : c.len-start.result ≡ length c.args.table.now.items = omega (arith, c.len-start.ensures) in
    byte_more c.args.masks.now c.args.first j c.mask_at.result c.len-start.result (1 * 2 ^ j % 2 ^ 64) c.args.table.now.items c.loop-j.table.items c.push_with.new.table.items
    c.loop-j.invariant within c.mask_at.ensures start count c.in_ok-push_with.ensures

pub returns : goal.returns
returns c = byte_all c.args.masks.now c.args.first c.loop-j.j c.args.table.now.items c.loop-j.table.items c.loop-j.invariant (let low = c.loop-j.auto.j-end in omega (arith, low, c.loop-j-test.false))
