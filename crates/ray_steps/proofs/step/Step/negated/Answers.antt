use Rattle.std.proofs.Common.{◌≡◌, All, length, map, subst, sym, ap, ◌∙◌}
use Rattle.std.proofs.lemmas.List.{length-map}
use Rattle.ray_steps.specs.Signs.{IsBoundedSign}
use Rattle.ray_steps.specs.Negated.{negated_sign}
use Rattle.ray_steps.proofs.TurnedLemmas.{all_bounded-negated}
use Rattle.ray_steps.proofs.step.Step.negated.Goals as goal

pub invariant_of-negated : goal.invariant_of-negated
invariant_of-negated g c =
    let s = c.self.inside in
    let signs = c.in_ok-signs.signs.items in
    let is : signs ≡ map negated_sign s.signs.items = c.in_ok-signs.ensures ∙ ap (map negated_sign) c.deref.ensures.value in
    record {
      rays = c.self.invariant.rays;
      count = ap length is ∙ length-map s.signs.items negated_sign ∙ c.self.invariant.count;
      bounded = subst (All (IsBoundedSign s.limit.number)) (sym is) (all_bounded-negated s.limit.number s.signs.items c.self.invariant.bounded);
    }
