use Rattle.std.proofs.Common.{◌+◌, subst, sym, ap, ◌∙◌}
use Rattle.std.proofs.lemmas.List.{get_or_default}
use Rattle.support_table.specs.declared.candidates.Candidate.{Candidate}
use Rattle.support_table.specs.Groups.{AreGrouped}
use Rattle.support_table.proofs.GroupLemmas.{grouped_push, group_from_words}
use Rattle.support_table.proofs.groups.fill_with_groups.Goals as goal

pub loop-candidate-preserved : goal.loop-candidate-preserved
loop-candidate-preserved c =
    let found = c.args.found in
    let n = c.loop-candidate.candidate-index in
    let candidates = found.list.now in
    subst (AreGrouped found.table.now.supports found.outer.now candidates (n + 1)) (sym c.in_ok-push.ensures.items)
    (grouped_push found.table.now.supports found.outer.now candidates n c.loop-candidate.grouped.items _ c.loop-candidate.invariant c.loop-candidate-test.true
    (λ d. ap (λ (r : Candidate). r.place) (get_or_default candidates n d _ c.loop-candidate-test.true))
    (record {
      in_range = found.found n _ c.loop-candidate-test.true;
      wide = c.words_at.ensures.width ∙ sym found.columns;
      group = group_from_words found.outer.now _ c.words_at.result.now c.words-words.result.now c.group_of-group.result c.words_at.ensures.words c.words-words.ensures c.group_of-group.ensures;
      size = found.sized n _ c.loop-candidate-test.true;
    }))
