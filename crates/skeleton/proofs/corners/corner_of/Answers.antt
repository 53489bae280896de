use Rattle.std.proofs.Common.{◌/◌}
use Rattle.skeleton_class_laws.proofs.RoundLemmas.{corner_at-is}
use Rattle.std.proofs.Common.{◌∙◌}
use Rattle.skeleton.proofs.corners.corner_of.Goals as goal

pub returns : goal.returns
returns c = (λ i. record {
  tet = c.args.place / 24;
  a = c.image.ensures.value i;
  b = c.image-2.ensures.value i;
  c = c.image-3.ensures.value i;
  d = c.image-4.ensures.value i;
}) ∙ corner_at-is c.args.place c.order-order.result c.order-order.ensures.value
