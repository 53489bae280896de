use Rattle.std.proofs.Common.{arith}
use Rattle.std.proofs.Math.Facts.{Fits-lt-pow}
use Rattle.std.proofs.lemmas.Bool.{false≢true}
use Rattle.support_table.proofs.OtherLemmas.{none_below_more, none_inside}
use Rattle.support_table.proofs.others.has_other.Goals as goal

pub loop-k-init : goal.loop-k-init
loop-k-init c column less = absurd (omega arith)

pub loop-k-preserved : goal.loop-k-preserved
loop-k-preserved c =
    let family = c.args.family in
    none_below_more family.table.now.supports family.outer.now family.list.now c.args.candidate.place c.loop-k.k c.words_at-word-items.result.now c.words-outside.result.now c.loop-k.invariant
    (Fits-lt-pow (c.type_inv.outside c.loop-k.k)) (c.has_of_word.ensures.no c.if-has_of_word.false)

pub returns : goal.returns
returns c =
    let family = c.args.family in
    let none = none_inside family.table.now.supports family.outer.now family.list.now c.args.candidate.place family.ranges.now c.words_at-word-items.result.now c.words-outside.result.now c.loop-k.k family.family
    c.words_at-word-items.ensures.words c.words-outside.ensures c.loop-k-test.false (c.has_of_group.ensures.no c.if-has_of_group.false) c.loop-k.invariant in
    (λ is. absurd (false≢true is), λ t. absurd (none t))
