use Rattle.std.proofs.Common.{◌+◌, subst, sym, ap, ◌∙◌}
use Rattle.std.proofs.lemmas.Bool.{false≢true}
use Rattle.std.proofs.lemmas.List.{get_or_default}
use Rattle.support_table.specs.Pairs.{AreTested}
use Rattle.support_table.proofs.PairLemmas.{tested_push, tested_skip}
use Rattle.support_table.proofs.pairs.fill_tested.Goals.{then-selected-candidate+then-not-is_beyond_pair+in_ok-push, else-selected-candidate, else-selected-candidate-via-then-selected-candidate+else-not-is_beyond_pair, else-selected-candidate-via-else-selected-candidate}
use Rattle.support_table.proofs.pairs.fill_tested.Goals as goal

pub loop-candidate-preserved : goal.loop-candidate-preserved
loop-candidate-preserved c =
    let found = c.args.pairs.found in
    let supports = found.table.now.supports in
    let outer = found.outer.now in
    let candidates = found.list.now in
    let selected = c.args.selected.now in
    let n = c.loop-candidate.candidate-index in
    let tested = c.loop-candidate.tested.items in
    elim c.if-selected-candidate.branch [
      | then-selected-candidate+then-not-is_beyond_pair+in_ok-push w ↦ subst (AreTested supports outer selected candidates (n + 1)) (sym (ap (λ v. v.items) w.tested-is ∙ w.in_ok-push.ensures.items))
          (tested_push supports outer candidates selected n tested _ c.loop-candidate.invariant c.loop-candidate-test.true (λ d. get_or_default candidates n d _ c.loop-candidate-test.true))
      | else-selected-candidate w ↦ subst (AreTested supports outer selected candidates (n + 1)) (sym (ap (λ v. v.items) w.tested-is))
          (tested_skip supports outer candidates selected n tested _ c.loop-candidate.invariant c.loop-candidate-test.true (λ d. get_or_default candidates n d _ c.loop-candidate-test.true)
          (λ flag. elim w.else-selected-candidate.branch [
            | else-selected-candidate-via-then-selected-candidate+else-not-is_beyond_pair w' ↦ w'.is_beyond_pair.ensures w'.if-not-is_beyond_pair.false
            | else-selected-candidate-via-else-selected-candidate w' ↦ absurd (false≢true (sym w'.if-selected-candidate.false ∙ flag))
          ]))
    ]
