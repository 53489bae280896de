-- Three quads more.
use Rattle.std.proofs.Common.{◌≡◌, ◌+◌, ◌*◌, ap, ◌∙◌, arith}
use Rattle.std.specs.Prelude.{slice_index}
use Rattle.quad_lift.proofs.LiftParts.{project_more}
use Rattle.quad_lift.proofs.lifting.project.Goals as goal

pub loop-tet-preserved : goal.loop-tet-preserved
loop-tet-preserved c =
    project_more c.args.x.now c.loop-tet.tet c.loop-tet.quads.items c.push.new.self.items c.push-in-loop-tet.new.self.items c.push-in-loop-tet-2.new.self.items _ _ _ c.loop-tet.invariant
    c.in_ok-push.ensures.items c.in_ok-push-2.ensures.items c.in_ok-push-3.ensures.items
    (ap (slice_index c.args.x.now) first)
    (ap (λ k. slice_index c.args.x.now (k + 1)) first ∙ ap (slice_index c.args.x.now) (omega arith))
    (ap (λ k. slice_index c.args.x.now (k + 2)) first ∙ ap (slice_index c.args.x.now) (omega arith))
  where
    first : c.columns_each-in-loop-tet.result * c.loop-tet.tet + c.triangles_each.result ≡ 7 * c.loop-tet.tet + 4
    first = λ i. c.columns_each-in-loop-tet.ensures.value i * c.loop-tet.tet + c.triangles_each.ensures.value i
