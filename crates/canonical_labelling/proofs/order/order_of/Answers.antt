use Rattle.std.proofs.Common.{arith}
use Rattle.signature_laws.proofs.Growing.{after_begun, after_more, first_permutes}
use Rattle.canonical_labelling.proofs.order.order_of.Goals as goal

pub loop-place-init : goal.loop-place-init
loop-place-init c = record {
  walking = record { size = c.in_ok-walking.ensures.size; visited = c.in_ok-walking.ensures.visited };
  so_far = after_begun c.args.traversal.now.table.now c.args.traversal.now.start c.in_ok-walking.walking.order.items c.in_ok-walking.ensures.order;
  permutes = λ l. absurd (omega arith);
}

pub loop-place-preserved : goal.loop-place-preserved
loop-place-preserved c = record {
  walking = c.in_ok-take_face.ensures.walking;
  so_far = after_more c.args.traversal.now.table.now c.args.traversal.now.start c.loop-place.place c.loop-place.walking.order.items c.take_face.new.walking.order.items c.loop-place.invariant.so_far c.in_ok-take_face.ensures.takes;
  permutes = λ l. first_permutes c.args.traversal.now.table.now c.args.traversal.now.start c.loop-place.place c.loop-place.walking.order.items c.loop-place.invariant.so_far c.loop-place.invariant.permutes c.in_ok-take_face.ensures.permutes;
}

pub returns-clause-permutes : goal.returns-clause-permutes
returns-clause-permutes c = c.loop-place.invariant.permutes (omega (arith, c.len-place-end.ensures.value, c.args.traversal.now.in_range))
