-- With the signs negated the pairs are the same.
use Rattle.std.proofs.Common.{◌≡◌, length, subst, sym, ap, ◌∙◌}
use Rattle.ray_steps.specs.Rays.{rays_of, AreOfWidth}
use Rattle.ray_steps.proofs.RayLemmas.{length-rays_of}
use Rattle.ray_steps.proofs.TurnedLemmas.{made-negated}
use Rattle.ray_steps.specs.Steps.{StepData, AreMadeOf}
use Rattle.ray_steps.proofs.step.Step.combinations_by_fewer.Goals as goal

pub returns-then-has_more_positives-clause-ok : goal.returns-then-has_more_positives-clause-ok
returns-then-has_more_positives-clause-ok g c =
    let d = c.args.self in
    let ray_list = c.step.inside.ray_list.items in
    let made = c.in_ok-made.made.items in
    let negated = c.in_ok-step.ensures.step in
    let count : length d.signs ≡ length d.rays =
    subst (λ (s : StepData). length s.signs ≡ length s.rays) c.self.view_is (c.self.invariant.count ∙ sym (length-rays_of c.self.inside.ray_list.items)) in
    let all = subst (λ (s : StepData). AreMadeOf s made) negated c.in_ok-made.ensures.ok in
    let rays : rays_of ray_list ≡ d.rays = ap (λ (s : StepData). s.rays) c.step.view_is ∙ ap (λ (s : StepData). s.rays) negated in
    record {
      rays_are = rays;
      signs_are = c.in_ok-step.ensures.signs;
      widths = subst (λ n. AreOfWidth n ray_list) (ap (λ (s : StepData). s.columns) c.step.view_is ∙ ap (λ (s : StepData). s.columns) negated) c.step.invariant.rays.widths;
      made = record { made = made-negated d.limit d.pairs d.rays d.signs (rays_of made) count all.made; widths = all.widths };
      count = ap length c.in_ok-step.ensures.signs ∙ count ∙ ap length (sym rays) ∙ length-rays_of ray_list;
    }

pub returns-clause-ok : goal.returns-clause-ok
returns-clause-ok g c =
    record {
      rays_are = ap (λ (s : StepData). s.rays) c.self.view_is;
      signs_are = ap (λ (s : StepData). s.signs) c.self.view_is;
      widths = subst (λ n. AreOfWidth n c.self.inside.ray_list.items) (ap (λ (s : StepData). s.columns) c.self.view_is) c.self.invariant.rays.widths;
      made = c.in_ok-made-2.ensures.ok;
      count = c.self.invariant.count;
    }
