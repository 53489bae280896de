use Rattle.std.proofs.Common.{◌+◌, sym, subst, ◌∙◌, arith}
use Rattle.support_table.proofs.NarrowLoops.{IsNarrowedBelow, narrowed_none, narrowed_set, narrowed_skip, narrowed_all}
use Rattle.support_table.proofs.narrow.narrowed.Goals.{then-is_set, else-is_set}
use Rattle.support_table.proofs.narrow.narrowed.Goals as goal

pub loop-k-init : goal.loop-k-init
loop-k-init c = narrowed_none c.args.words.now c.args.used.now c.in_ok-support.support c.in_ok-support.ensures

pub is_set-requires : goal.is_set-requires
is_set-requires c = c.requires.in_range c.loop-k.k 0 c.loop-k-test.true

pub loop-k-preserved : goal.loop-k-preserved
loop-k-preserved c =
    let words = c.args.words.now in
    let used = c.args.used.now in
    let k = c.loop-k.k in
    let support = c.loop-k.support in
    elim c.if-is_set.branch [
      | then-is_set w ↦ subst (IsNarrowedBelow words used (k + 1)) (sym (w.support-is ∙ w.insert.ensures)) (narrowed_set words used k support c.loop-k.invariant c.loop-k-test.true (sym c.is_set.ensures ∙ w.if-is_set.true))
      | else-is_set w ↦ subst (IsNarrowedBelow words used (k + 1)) (sym w.support-is) (narrowed_skip words used k support c.loop-k.invariant (sym c.is_set.ensures ∙ w.if-is_set.false))
    ]

pub returns : goal.returns
returns c = narrowed_all c.args.words.now c.args.used.now c.loop-k.k c.loop-k.support c.loop-k.invariant (omega (arith, c.loop-k-test.false))
