use Rattle.std.proofs.Common.{◌*◌, refl}
use Rattle.support_table.proofs.OutsideLemmas.{bytes_none, bytes_more}
use Rattle.support_table.proofs.outside.byte_outsides.Goals as goal

pub loop-i-init : goal.loop-i-init
loop-i-init c = bytes_none c.args.masks.now c.in_ok-table.table.items c.in_ok-table.ensures.items

pub loop-i-preserved : goal.loop-i-preserved
loop-i-preserved c = bytes_more c.args.masks.now c.loop-i.i (8 * c.loop-i.i) c.loop-i.table.items c.push_byte.new.table.items c.loop-i.invariant refl c.in_ok-push_byte.ensures
