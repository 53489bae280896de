use Rattle.std.proofs.Common.{length, subst, subst₂, sym, ap, ◌∙◌}
use Rattle.ray_steps.specs.Rays.{rays_of}
use Rattle.ray_steps.specs.Signs.{IsMadeUpTo, IsNextFrom}
use Rattle.ray_steps.proofs.step.Step.next_by_fewer.Goals as goal

pub returns-clause-ok : goal.returns-clause-ok
returns-clause-ok g c =
    let d = c.args.self in
    let parts = c.in_ok-parts.parts in
    let h = c.in_ok-parts.ensures.ok in
    let made = rays_of parts.made.items in
    let signs = c.deref.ensures.value ∙ h.signs_are in
    let before = subst₂ (λ rs ss. IsMadeUpTo d.limit d.pairs rs ss (length parts.ray_list.items) 0 made) (sym h.rays_are) (sym signs)
    (subst (λ n. IsMadeUpTo d.limit d.pairs d.rays d.signs n 0 made) (ap length (sym h.signs_are) ∙ h.count) h.made.made) in
    subst₂ (λ rs ss. IsNextFrom d.limit d.pairs rs ss 0 (rays_of c.keep_zeros.new.next.items)) h.rays_are signs (c.in_ok-keep_zeros.ensures.keeps d.limit d.pairs before)

pub returns-clause-widths : goal.returns-clause-widths
returns-clause-widths g c = c.in_ok-keep_zeros.ensures.widths c.args.self.columns c.in_ok-parts.ensures.ok.widths c.in_ok-parts.ensures.ok.made.widths
