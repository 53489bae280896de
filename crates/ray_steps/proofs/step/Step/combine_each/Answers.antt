use Rattle.std.proofs.Common.{◌≡◌, length, subst, ap, ◌∙◌, arith}
use Rattle.ray_steps.specs.Rays.{rays_of}
use Rattle.ray_steps.specs.Signs.{IsMadeUpTo}
use Rattle.ray_steps.specs.Steps.{StepData}
use Rattle.ray_steps.proofs.step.Step.combine_each.Goals as goal

pub returns-clause-ok : goal.returns-clause-ok
returns-clause-ok g c =
    let d = c.args.self.now in
    let all : c.loop-i.i ≡ length c.self.inside.signs.items = omega (arith, c.self.invariant.count) in
    record {
      made = subst (λ n. IsMadeUpTo d.limit d.pairs d.rays d.signs n 0 (rays_of c.loop-i.made.ray_list.items)) (all ∙ ap (λ (d : StepData). length d.signs) c.self.view_is) c.loop-i.invariant.so_far;
      widths = c.loop-i.invariant.widths;
    }
