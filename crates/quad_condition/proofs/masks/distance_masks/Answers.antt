-- One mask more, and all of them.
use Rattle.std.proofs.Common.{length, ap, ◌∙◌, arith}
use Rattle.std.proofs.lemmas.List.{length_push}
use Rattle.surface_definitions.proofs.ColumnCounts.{few_columns}
use Rattle.quad_condition.proofs.MarkLemmas.{some_quads, marks_more}
use Rattle.quad_condition.proofs.masks.distance_masks.Goals as goal

pub overflow_sub-distance-end : goal.overflow_sub-distance-end
overflow_sub-distance-end c = let some = some_quads c.args.space.coords in omega (arith, some, c.triangles_each-least.ensures, c.columns_each.ensures)

pub mask-requires : goal.mask-requires
mask-requires c = let limited = few_columns c.args.space.coords in omega (arith, limited, c.columns_each.ensures, c.loop-distance-test.true)

pub loop-distance-preserved : goal.loop-distance-preserved
loop-distance-preserved c =
    let pushed = c.in_ok-push.ensures.items in
    let size = ap length pushed ∙ length_push c.loop-distance.near.items _ in
    let so_far = c.loop-distance.invariant.so_far in
    record {
      so_far = omega (arith, size, so_far);
      each = marks_more c.args.space.coords c.args.space.tets _ c.loop-distance.distance c.loop-distance.near.items _ _ pushed c.triangles_each-least.ensures.value so_far c.in_ok-mask.ensures c.loop-distance.invariant.each;
    }

pub returns : goal.returns
returns c =
    let some = some_quads c.args.space.coords in
    let so_far = c.loop-distance.invariant.so_far in
    record {
      reach = omega (arith, some, so_far, c.triangles_each-least.ensures, c.columns_each.ensures, c.loop-distance-test.false, c.loop-distance.auto);
      each = c.loop-distance.invariant.each;
    }
