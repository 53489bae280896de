use Rattle.std.proofs.Common.{◌+◌, subst, sym, ap, ◌∙◌}
use Rattle.ray_steps.specs.Rays.{rays_of}
use Rattle.ray_steps.specs.CompatibleLists.{AreCompatible}
use Rattle.ray_steps.proofs.RayLemmas.{ray_read}
use Rattle.ray_steps.proofs.RivalLemmas.{meets_from_test, apart_push, apart_skip}
use Rattle.ray_steps.proofs.compatible_list.compatible_indices.Goals as goal
use Rattle.ray_steps.proofs.compatible_list.compatible_indices.Goals.{then-not-meets+in_ok-push, else-not-meets}

pub loop-k-preserved : goal.loop-k-preserved
loop-k-preserved c =
    let ray_list = c.args.ray_list.now in
    let rays = rays_of ray_list in
    let columns = c.args.columns.now in
    let k = c.loop-k.k in
    let places = c.loop-k.places.items in
    let v = c.index-ray_list-k.result in
    let read = ray_read ray_list k v c.loop-k-test.true c.index-ray_list-k.is in
    elim c.if-not-meets.branch [
      | then-not-meets+in_ok-push w ↦
          subst (AreCompatible rays columns (k + 1)) (sym (ap (λ p. p.items) w.places-is ∙ w.in_ok-push.ensures.items))
          (apart_push rays columns k places c.loop-k.invariant)
      | else-not-meets w ↦
          subst (AreCompatible rays columns (k + 1)) (sym (ap (λ p. p.items) w.places-is))
          (apart_skip rays columns k places c.loop-k.invariant (λ separate. separate (meets_from_test v _ columns c.meets.result read c.meets.ensures w.if-not-meets.false)))
    ]
