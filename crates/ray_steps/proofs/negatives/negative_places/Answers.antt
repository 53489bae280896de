use Rattle.std.proofs.Common.{◌+◌, subst, sym, ap, ◌∙◌}
use Rattle.std.proofs.lemmas.Bool.{false≢true}
use Rattle.ray_steps.specs.Signs.{AreNegativePlaces}
use Rattle.ray_steps.proofs.NegativeLemmas.{negative_push, negative_skip}
use Rattle.ray_steps.proofs.negatives.negative_places.Goals as goal
use Rattle.ray_steps.proofs.negatives.negative_places.Goals.{then-is_negative+in_ok-push, else-is_negative}

pub loop-place-preserved : goal.loop-place-preserved
loop-place-preserved c =
    let signs = c.args.signs.now in
    let place = c.loop-place.place in
    let places = c.loop-place.places.items in
    elim c.if-is_negative.branch [
      | then-is_negative+in_ok-push w ↦
          subst (AreNegativePlaces signs (place + 1)) (sym (ap (λ p. p.items) w.places-is ∙ w.in_ok-push.ensures.items)) (negative_push signs place places c.loop-place.invariant)
      | else-is_negative w ↦
          subst (AreNegativePlaces signs (place + 1)) (sym (ap (λ p. p.items) w.places-is))
          (negative_skip signs place places c.loop-place.invariant (λ is. false≢true (sym w.if-is_negative.false ∙ c.is_negative.ensures.1 is)))
    ]

pub bounds-signs-place : goal.bounds-signs-place
bounds-signs-place c = c.loop-place-test.true
