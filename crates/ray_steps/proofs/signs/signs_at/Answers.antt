use Rattle.std.proofs.lemmas.Result.{err_from_is_err_and}
use Rattle.std.proofs.Common.{get_or-take, [], subst, sym, ◌∙◌, arith}
use Rattle.std.proofs.lemmas.List.{length-take-le}
use Rattle.cone_definitions.specs.Elimination.{HasPartsWithin, HasLargePart}
use Rattle.ray_steps.specs.Rays.{rays_of}
use Rattle.ray_steps.specs.Signs.{IsSignAt}
use Rattle.ray_steps.proofs.RayLemmas.{length-rays_of, ray_read}
use Rattle.ray_steps.proofs.SignLemmas.{signs_push}
use Rattle.ray_steps.proofs.signs.signs_at.Goals as goal

pub returns-in-Err-clause-err : goal.returns-in-Err-clause-err
returns-in-Err-clause-err c =
    let ray_list = c.args.input.ray_list.now in
    let i = c.loop-kept.kept-index in
    let rays = rays_of ray_list in
    let read = ray_read ray_list i c.kept-item.result c.loop-kept-test.true c.kept-item.is in
    let n = length-rays_of ray_list in
    record {
      place = i;
      in_range = omega arith;
      is = c.in_ok-ray-in-Err.ensures ∙ sym read;
      large = subst (HasLargePart c.args.limit c.args.input.row.now) (sym read) c.in-Err.ensures.passed;
      earlier = λ k less. subst (HasPartsWithin c.args.limit c.args.input.row.now) (get_or-take i rays k [] less) (c.loop-kept.invariant.within k [] (let e = length-take-le i rays (omega arith) in omega arith));
    }

pub loop-kept-preserved : goal.loop-kept-preserved
loop-kept-preserved c =
    let ray_list = c.args.input.ray_list.now in
    let i = c.loop-kept.kept-index in
    let rays = rays_of ray_list in
    let read = ray_read ray_list i c.kept-item.result c.loop-kept-test.true c.kept-item.is in
    let n = length-rays_of ray_list in
    rw c.in_ok-push-in-Ok.ensures.items
    (signs_push c.args.limit c.args.input.row.now rays c.loop-kept.signs.items c.in-Ok.sign i (omega arith) c.loop-kept.invariant
    (subst (λ x. IsSignAt c.args.input.row.now x c.in-Ok.sign) (sym read) c.in-Ok.ensures.sign)
    (subst (HasPartsWithin c.args.limit c.args.input.row.now) (sym read) c.in-Ok.ensures.within))

pub returns-in_err-signs-clause-ok : goal.returns-in_err-signs-clause-ok
returns-in_err-signs-clause-ok c = let p = err_from_is_err_and c.from_residual.result c.from_residual.ensures.1 in rw p.1 tt

pub returns-in_err-signs-clause-err : goal.returns-in_err-signs-clause-err
returns-in_err-signs-clause-err c = let p = err_from_is_err_and c.from_residual.result c.from_residual.ensures.1 in rw (p.1, p.2) tt

pub returns-in_err-push-in-Ok-clause-ok : goal.returns-in_err-push-in-Ok-clause-ok
returns-in_err-push-in-Ok-clause-ok c = let p = err_from_is_err_and c.from_residual-in_err-push-in-Ok.result c.from_residual-in_err-push-in-Ok.ensures.1 in rw p.1 tt

pub returns-in_err-push-in-Ok-clause-err : goal.returns-in_err-push-in-Ok-clause-err
returns-in_err-push-in-Ok-clause-err c = let p = err_from_is_err_and c.from_residual-in_err-push-in-Ok.result c.from_residual-in_err-push-in-Ok.ensures.1 in rw (p.1, p.2) tt

pub returns-in_err-ray-in-Err-clause-ok : goal.returns-in_err-ray-in-Err-clause-ok
returns-in_err-ray-in-Err-clause-ok c = let p = err_from_is_err_and c.from_residual-in_err-ray-in-Err.result c.from_residual-in_err-ray-in-Err.ensures.1 in rw p.1 tt

pub returns-in_err-ray-in-Err-clause-err : goal.returns-in_err-ray-in-Err-clause-err
returns-in_err-ray-in-Err-clause-err c = let p = err_from_is_err_and c.from_residual-in_err-ray-in-Err.result c.from_residual-in_err-ray-in-Err.ensures.1 in rw (p.1, p.2) tt

pub returns-in-Err-clause-ok : goal.returns-in-Err-clause-ok
returns-in-Err-clause-ok c = tt

pub returns-clause-err : goal.returns-clause-err
returns-clause-err c = tt
