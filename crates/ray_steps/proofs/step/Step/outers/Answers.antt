use Rattle.std.proofs.Common.{subst, sym, ap, ◌∙◌}
use Rattle.std.specs.List.{All}
use Rattle.std.proofs.lemmas.List.Elements.{All-push}
use Rattle.ray_steps.specs.Adjacent.{IsOuterOf}
use Rattle.ray_steps.proofs.step.Step.outers.Goals.{then-matches+then-not-is_single+in_ok-outer_at+in_ok-push, else-matches}
use Rattle.ray_steps.proofs.step.Step.outers.Goals as goal

pub loop-i-preserved : goal.loop-i-preserved
loop-i-preserved g c =
    let d = c.args.self.now in
    elim c.if-matches.branch [
      | then-matches+then-not-is_single+in_ok-outer_at+in_ok-push w ↦ subst (All (IsOuterOf d)) (sym (ap (λ v. v.items) w.outers-is ∙ w.in_ok-push.ensures.items))
          (All-push (IsOuterOf d) c.loop-i.outers.items _ c.loop-i.invariant w.in_ok-outer_at.ensures.1)
      | else-matches w ↦ subst (All (IsOuterOf d)) (sym (ap (λ v. v.items) w.outers-is)) c.loop-i.invariant
    ]
