use Rattle.std.proofs.Common.{◌≡◌, ◌+◌, ◌<◌, subst, arith}
use Rattle.std.proofs.Math.Facts.{Fits-lt-pow}
use Rattle.support_table.proofs.BitLemmas.{before_first, next_before, before_more}
use Rattle.support_table.proofs.OtherLemmas.{AreDoneBits, done_none, done_more, done_all}
use Rattle.support_table.proofs.others.has_of_word.Goals as goal

pub loop-rest-init : goal.loop-rest-init
loop-rest-init c = record {
  before = before_first c.args.first c.args.word c.ranges.word.fits;
  bits = done_none c.args.family.table.now.supports c.args.family.outer.now c.args.family.list.now c.args.candidate.place c.args.first c.args.word;
}

pub overflow_add-next : goal.overflow_add-next
overflow_add-next c =
    let some : 0 < c.loop-rest.rest = omega (arith, c.loop-rest-test.true) in
    let next = next_before c.loop-rest.column (c.args.first + 64) c.loop-rest.rest c.loop-rest.invariant.before some (Fits-lt-pow c.loop-rest.auto.rest-fits) in
    omega (arith, next, c.requires.first)

pub overflow_add-next-in-loop-rest : goal.overflow_add-next-in-loop-rest
overflow_add-next-in-loop-rest c =
    let some : 0 < c.loop-rest.rest = omega (arith, c.loop-rest-test.true) in
    let next = next_before c.loop-rest.column (c.args.first + 64) c.loop-rest.rest c.loop-rest.invariant.before some (Fits-lt-pow c.loop-rest.auto.rest-fits) in
    omega (arith, next, c.requires.first)

pub loop-rest-preserved : goal.loop-rest-preserved
loop-rest-preserved c =
    let family = c.args.family in
    let column = c.loop-rest.column in
    let rest = c.loop-rest.rest in
    let some : 0 < rest = omega (arith, c.loop-rest-test.true) in
    let fits = Fits-lt-pow c.loop-rest.auto.rest-fits in
    record {
      before = before_more column (c.args.first + 64) rest c.loop-rest.invariant.before;
      bits = done_more family.table.now.supports family.outer.now family.list.now c.args.candidate.place c.args.first c.args.word column rest c.loop-rest.invariant.bits some fits (c.has_of_group.ensures.no c.if-has_of_group.false);
    }

pub returns-clause-no : goal.returns-clause-no
returns-clause-no c _ =
    let family = c.args.family in
    let none : c.loop-rest.rest ≡ 0 = omega (arith, c.loop-rest-test.false) in
    done_all family.table.now.supports family.outer.now family.list.now c.args.candidate.place c.args.first c.args.word c.loop-rest.column
    (subst (AreDoneBits family.table.now.supports family.outer.now family.list.now c.args.candidate.place c.args.first c.args.word c.loop-rest.column) none c.loop-rest.invariant.bits)
