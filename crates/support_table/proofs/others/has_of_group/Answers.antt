use Rattle.std.proofs.Common.{◌≡◌, ◌<◌, inl, inr, length, subst, sym, ◌∙◌, arith}
use Rattle.std.proofs.lemmas.Bool.{cases_lt, false≢true}
use Rattle.std.proofs.lemmas.List.{get_or_default}
use Rattle.support_table.specs.Groups.{IsOtherInside}
use Rattle.support_table.proofs.TableLemmas.{covered_iff}
use Rattle.support_table.proofs.OtherLemmas.{none_above, none_larger, none_in_range}
use Rattle.support_table.proofs.others.has_of_group.Goals.{else-other-place-via-then-other-place+then-entry-size+else-are_covered, else-other-place-via-then-other-place+else-entry-size, else-other-place-via-else-other-place}
use Rattle.support_table.proofs.others.has_of_group.Goals as goal

pub loop-k-preserved : goal.loop-k-preserved
loop-k-preserved c k low less is =
    let family = c.args.family in
    elim (cases_lt k c.loop-k.k) [
      | inl old ↦ c.loop-k.invariant k low old is
      | inr exceeded ↦
          let e : k ≡ c.loop-k.k = omega arith in
          let other = subst (IsOtherInside family.table.now.supports family.outer.now family.list.now c.args.candidate.place) e is in
          elim c.else-other-place.branch [
            | else-other-place-via-then-other-place+then-entry-size+else-are_covered w ↦ false≢true (sym w.if-are_covered.false ∙ w.are_covered.ensures.1
                ((covered_iff _ family.outer.now _ w.words_at.result.now w.words.result.now c.words_at-words.result.now w.words_at.ensures.words w.words.ensures c.words_at-words.ensures.words).1 other.inside))
            | else-other-place-via-then-other-place+else-entry-size w ↦ none_larger family.table.now.supports family.outer.now family.list.now c.args.candidate.place family.ranges.now c.args.candidate.size c.loop-k.k family.family
                c.requires.size (omega (arith, w.if-entry-size.false)) other
            | else-other-place-via-else-other-place w ↦ other.other w.if-other-place.false
          ]
    ]

pub returns-then-group-len-clause-no : goal.returns-then-group-len-clause-no
returns-then-group-len-clause-no c _ =
    let family = c.args.family in
    none_above family.table.now.supports family.outer.now family.list.now c.args.candidate.place family.ranges.now c.args.group family.family (omega (arith, c.if-group-len.true, c.len.ensures))

pub returns-clause-no : goal.returns-clause-no
returns-clause-no c _ =
    let family = c.args.family in
    let ends = family.ranges.now.ends.items in
    let group = c.args.group in
    let below : group < length ends = omega (arith, c.if-group-len.false, c.len.ensures) in
    let end = get_or_default ends group c.index-k-end.result.now 0 below in
    none_in_range family.table.now.supports family.outer.now family.list.now c.args.candidate.place family.ranges.now group c.loop-k.k family.family
    (omega (arith, c.loop-k-test.false, c.index-k-end.ensures, end)) c.loop-k.invariant
