use Rattle.std.proofs.Common.{Contains, subst, sym, ap, ◌∙◌}
use Rattle.std.specs.List.{All}
use Rattle.std.proofs.lemmas.List.{get_or_default}
use Rattle.support_table.proofs.PartLemmas.{chosen_push}
use Rattle.support_table.proofs.parts.chosen_by.Goals.{then-contains-having+in_ok-push, else-contains-having}
use Rattle.support_table.proofs.parts.chosen_by.Goals as goal

pub loop-k-preserved : goal.loop-k-preserved
loop-k-preserved c =
    let chosen = c.args.chosen.now in
    let n = c.loop-k.k-index in
    elim c.if-contains-having.branch [
      | then-contains-having+in_ok-push w ↦ subst (All (Contains chosen)) (sym (ap (λ v. v.items) w.part-is ∙ w.in_ok-push.ensures.items))
          (chosen_push chosen c.loop-k.part.items n _ c.loop-k.invariant c.loop-k-test.true (λ d. get_or_default chosen n d _ c.loop-k-test.true))
      | else-contains-having w ↦ subst (All (Contains chosen)) (sym (ap (λ v. v.items) w.part-is)) c.loop-k.invariant
    ]
