use Rattle.std.proofs.Common.{◌+◌, ◌<◌, length, subst, sym, arith}
use Rattle.support_table.specs.Outside.{AreOutsidesPushed}
use Rattle.support_table.proofs.OutsideLemmas.{pushed_none, pushed_more}
use Rattle.support_table.proofs.outside.push_with.Goals as goal

pub loop-m-init : goal.loop-m-init
loop-m-init c = pushed_none c.args.mask c.args.start c.args.table.now.items

pub loop-m-preserved : goal.loop-m-preserved
loop-m-preserved c =
    let n = c.loop-m.m in
    let old = c.args.table.now.items in
    let now = c.loop-m.table.items in
    let within : c.args.start + n < length old = omega (arith, c.loop-m-test.true, c.requires.within) in
    subst (AreOutsidesPushed c.args.mask c.args.start (n + 1) old) (sym c.in_ok-push.ensures.items)
    (pushed_more c.args.mask c.args.start old n c.index-entry.result.now c.both.result now c.loop-m.invariant within c.index-entry.ensures c.both.ensures)
