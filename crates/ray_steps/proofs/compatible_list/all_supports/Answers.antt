use Rattle.std.proofs.Common.{◌<◌, ◌∙◌, ◌++◌, ◌∷◌, [], List, Bool, length, map, take, ap, ap₂, sym, arith}
use Rattle.std.proofs.lemmas.List.{take_more, map-append}
use Rattle.cone_definitions.specs.Vectors.{ray_at}
use Rattle.support_bits.specs.Columns.{support_of}
use Rattle.support_table.specs.Tables.{Table}
use Rattle.ray_steps.specs.Rays.{rays_of}
use Rattle.ray_steps.proofs.RayLemmas.{length-rays_of, ray_read}
use Rattle.ray_steps.proofs.RivalLemmas.{support_read}
use Rattle.ray_steps.proofs.compatible_list.all_supports.Goals as goal

pub loop-kept-preserved : goal.loop-kept-preserved
loop-kept-preserved c =
    let ray_list = c.args.rays.items.now in
    let rays = rays_of ray_list in
    let k = c.loop-kept.kept-index in
    let kept = c.kept-item.result in
    let within : k < length rays = let n = length-rays_of ray_list in let less = c.loop-kept-test.true in omega arith in
    let is = support_read kept (ray_at rays k) (ray_read ray_list k kept c.loop-kept-test.true c.kept-item.is) in
    record {
      width = ap (λ (t : Table). t.columns) c.in_ok-push.ensures.pushed ∙ c.loop-kept.invariant.width;
      supports = ap (λ (t : Table). t.supports) c.in_ok-push.ensures.pushed
          ∙ ap₂ (λ (xs : List (List Bool)) (x : List Bool). xs ++ x ∷ []) c.loop-kept.invariant.supports is
          ∙ sym (ap (λ xs. map support_of xs) (take_more rays k [] within) ∙ map-append support_of (take k rays) (ray_at rays k ∷ []));
    }
