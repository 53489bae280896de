use Rattle.std.proofs.Common.{length, ap, arith}
use Rattle.std.specs.Prelude.{slice_index}
use Rattle.table_definitions.proofs.Carried.{image_in_range}
use Rattle.table_definitions.proofs.ListFacts.{map_below_more}
use Rattle.canonical_labelling.proofs.between.images_of.Goals as goal

pub bounds-olds-image : goal.bounds-olds-image
bounds-olds-image c =
    let equal = c.requires in
    let low = c.loop-tet-test.true in
    let is = c.image.ensures.value in
    let range = image_in_range (length c.args.pair.first.now.images) c.args.pair.first.now c.image.ensures.bijection c.loop-tet.tet (omega (arith, low, equal)) in
    omega (arith, range, equal, is)

pub loop-tet-preserved : goal.loop-tet-preserved
loop-tet-preserved c =
    map_below_more (λ t. slice_index c.args.olds.now (slice_index c.args.pair.first.now.images t)) c.loop-tet.tet c.loop-tet.images.items c.push.new.self.items _ c.loop-tet.invariant c.in_ok-push.ensures.items
    (ap (slice_index c.args.olds.now) c.image.ensures.value)
