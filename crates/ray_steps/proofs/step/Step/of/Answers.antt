use Rattle.std.proofs.Common.{subst, ◌∙◌}
use Rattle.ray_steps.specs.Rays.{rays_of}
use Rattle.ray_steps.specs.Signs.{AreSigns}
use Rattle.ray_steps.proofs.RayLemmas.{length-rays_of}
use Rattle.ray_steps.proofs.StepLemmas.{bounded_signs}
use Rattle.ray_steps.proofs.step.Step.of.Goals as goal

pub invariant_of-result : goal.invariant_of-result
invariant_of-result g c =
    let signs = c.in_ok-signs.signs.items in
    let signed = subst (λ xs. AreSigns c.args.limit.number c.args.input.row.now (rays_of xs) signs) c.deref.ensures.value c.in_ok-signs.ensures.ok in
    record {
      rays = c.requires;
      count = signed.count ∙ length-rays_of c.args.input.ray_list.items;
      bounded = bounded_signs c.args.limit.number c.args.input.row.now (rays_of c.args.input.ray_list.items) signs signed;
    }
