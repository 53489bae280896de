-- The support is copied, and has as many columns as the ray has entries.
use Rattle.std.proofs.Common.{◌≡◌, length, ltb, refl, subst, subst₂, sym, ap, ◌∙◌}
use Rattle.std.proofs.lemmas.List.{length-map}
use Rattle.cone_definitions.specs.Vectors.{ray_at}
use Rattle.support_table.specs.Joins.{AreClashingColumns}
use Rattle.ray_steps.specs.Steps.{StepData}
use Rattle.ray_steps.proofs.RayLemmas.{ray_read, ray_width}
use Rattle.ray_steps.proofs.RivalLemmas.{support_read}
use Rattle.ray_steps.proofs.ViewLemmas.{place_of_rays}
use Rattle.ray_steps.proofs.step.Step.outer_at.Goals as goal

pub returns : goal.returns
returns g c =
    let d = c.args.self.now in
    let ray_list = c.self.inside.ray_list.items in
    let i = c.args.i in
    let same = ap (λ (d : StepData). d.rays) c.self.view_is in
    let within = place_of_rays ray_list d.rays i same c.requires in
    let u = c.index-u.result.now in
    let outer_is = support_read u (ray_at d.rays i) (ap (λ rays. ray_at rays i) (sym same) ∙ ray_read ray_list i u within c.index-u.ensures) in
    let copied = c.in_ok-support.ensures in
    let wide = subst (λ (d : StepData). length (ray_at d.rays i) ≡ d.columns) c.self.view_is (ray_width ray_list i c.self.inside.clashes.now.columns within c.self.invariant.rays.widths) in (
      refl,
      record {
        in_range = c.requires;
        support_is = copied ∙ outer_is;
        wide = ap length (copied ∙ outer_is) ∙ length-map (ray_at d.rays i) (λ entry. ltb 0 entry) ∙ wide;
        joined = subst₂ (λ ps s. AreClashingColumns ps s c.in_ok-joined.joined) (ap (λ (d : StepData). d.pairs) c.self.view_is) (sym copied) c.in_ok-joined.ensures;
      },
    )
