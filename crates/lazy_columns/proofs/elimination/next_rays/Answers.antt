use Rattle.std.proofs.Common.{inl, inr, false}
use Rattle.std.proofs.lemmas.Result.{IfOk-weaker, IfErr-weaker, err_from_is_err_and}
use Rattle.cone_arithmetic.specs.declared.numbers.TheConstants.{MAX_ENTRY}
use Rattle.ray_steps.specs.Rays.{rays_of}
use Rattle.ray_steps.specs.Faults.{IfLarge, IsFirstLargeValue}
use Rattle.ray_steps.specs.Steps.{IsFirstLargeEitherWay}
use Rattle.ray_steps.proofs.SurfaceSteps.{next_surfaces}
use Rattle.ray_steps.proofs.ViewLemmas.{next_of_step}
use Rattle.lazy_columns.specs.Passing.{PassesAt}
use Rattle.lazy_columns.proofs.Passed.{fault_weaker, pair_either_way}
use Rattle.lazy_columns.proofs.elimination.next_rays.Goals as goal

pub returns-clause-ok : goal.returns-clause-ok
returns-clause-ok g c =
    let step = c.in_ok-step.step in
    let rays = rays_of c.args.input.ray_list.items in
    IfOk-weaker c.next_by_fewer.result _ _
    (λ next h before surfaces. next_surfaces MAX_ENTRY c.args.input.clashes.now.columns c.args.input.clashes.now.pairs before c.args.input.row.now rays step.signs surfaces c.in_ok-step.ensures.ok.signed (rays_of next.items)
    (next_of_step MAX_ENTRY c.args.input.clashes.now c.args.input.row.now rays step (rays_of next.items) c.in_ok-step.ensures.ok h))
    c.next_by_fewer.ensures.ok

pub returns-in_err-step-clause-err : goal.returns-in_err-step-clause-err
returns-in_err-step-clause-err g c =
    let rays = rays_of c.args.input.ray_list.items in
    let p = err_from_is_err_and c.from_residual.result c.from_residual.ensures.1 in
    rw (p.1, p.2) (fault_weaker (IsFirstLargeValue MAX_ENTRY c.args.input.row.now rays) (PassesAt c.args.input.clashes.now c.args.input.row.now rays) (λ named h. inl h) _ c.in_err-step.ensures.err)

pub returns-clause-err : goal.returns-clause-err
returns-clause-err g c =
    let step = c.in_ok-step.step in
    let rays = rays_of c.args.input.ray_list.items in
    let clashes = c.args.input.clashes.now in
    let row = c.args.input.row.now in
    IfErr-weaker c.next_by_fewer.result (IfLarge (IsFirstLargeEitherWay step)) (IfLarge (PassesAt clashes row rays))
    (fault_weaker (IsFirstLargeEitherWay step) (PassesAt clashes row rays) (λ named h. inr (pair_either_way clashes row false rays step c.in_ok-step.ensures.ok named h)))
    c.next_by_fewer.ensures.err
