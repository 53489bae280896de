use Rattle.std.proofs.Common.{◌++◌, ◌∷◌, [], ap, refl, ◌∙◌}
use Rattle.ray_steps.specs.Rays.{rays_of}
use Rattle.ray_steps.proofs.RayLemmas.{rays_of-push}
use Rattle.lazy_columns.proofs.Entered.{entered_one}
use Rattle.lazy_columns.proofs.entering.enter.Goals as goal

pub returns-clause-entered : goal.returns-clause-entered
returns-clause-entered c =
    entered_one c.args.late.now.columns c.args.late.now _ c.args.column c.requires.unseen refl
    (ap rays_of c.in_ok-push.ensures.items ∙ rays_of-push c.args.late.now.ray_list.items c.in_ok-unit.field-0 ∙
    ap (λ x. rays_of c.args.late.now.ray_list.items ++ x ∷ []) c.in_ok-unit.ensures)
