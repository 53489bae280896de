use Rattle.std.proofs.Common.{subst, subst₂, sym}
use Rattle.ray_steps.specs.Rays.{rays_of, AreOfWidth}
use Rattle.ray_steps.specs.Signs.{IsMadeUpTo, IsNextFrom}
use Rattle.ray_steps.specs.Steps.{StepData, AreMadeOf}
use Rattle.ray_steps.proofs.step.Step.next.Goals as goal

pub returns-clause-ok : goal.returns-clause-ok
returns-clause-ok g c =
    let s = c.self.inside in
    let rays = rays_of s.ray_list.items in
    let pairs = s.clashes.now.pairs in
    let made = (subst (λ (d : StepData). AreMadeOf d c.in_ok-next.next.items) (sym c.self.view_is) c.in_ok-next.ensures.ok).made in
    let all = subst₂ (λ ss n. IsMadeUpTo s.limit.number pairs rays ss n 0 (rays_of c.in_ok-next.next.items)) (sym c.deref.ensures.value) c.self.invariant.count made in
    subst (λ (d : StepData). IsNextFrom d.limit d.pairs d.rays d.signs 0 (rays_of c.keep_zeros.new.next.items)) c.self.view_is
    (subst (λ ss. IsNextFrom s.limit.number pairs rays ss 0 (rays_of c.keep_zeros.new.next.items)) c.deref.ensures.value (c.in_ok-keep_zeros.ensures.keeps s.limit.number pairs all))

pub returns-clause-widths : goal.returns-clause-widths
returns-clause-widths g c =
    let made = (subst (λ (d : StepData). AreMadeOf d c.in_ok-next.next.items) (sym c.self.view_is) c.in_ok-next.ensures.ok).widths in
    subst (λ (d : StepData). AreOfWidth d.columns c.keep_zeros.new.next.items) c.self.view_is
    (c.in_ok-keep_zeros.ensures.widths c.self.inside.clashes.now.columns c.self.invariant.rays.widths made)
