use Rattle.std.proofs.Common.{Contains, subst, sym, ap, ◌∙◌}
use Rattle.std.specs.List.{All}
use Rattle.std.proofs.lemmas.List.{get_or_default}
use Rattle.support_table.proofs.PartLemmas.{chosen_push}
use Rattle.support_table.proofs.columns.sample_of.Goals.{then-i-step-eq0+in_ok-push, else-i-step-eq0}
use Rattle.support_table.proofs.columns.sample_of.Goals as goal

pub loop-i-preserved : goal.loop-i-preserved
loop-i-preserved c =
    let chosen = c.args.chosen.now in
    let n = c.loop-i.i in
    elim c.if-i-step-eq0.branch [
      | then-i-step-eq0+in_ok-push w ↦ subst (All (Contains chosen)) (sym (ap (λ v. v.items) w.sample-is ∙ w.in_ok-push.ensures.items))
          (chosen_push chosen c.loop-i.sample.items n _ c.loop-i.invariant c.loop-i-test.true (λ d. get_or_default chosen n d _ c.loop-i-test.true))
      | else-i-step-eq0 w ↦ subst (All (Contains chosen)) (sym (ap (λ v. v.items) w.sample-is)) c.loop-i.invariant
    ]
