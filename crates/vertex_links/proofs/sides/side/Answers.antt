use Rattle.std.proofs.Common.{◌/◌}
use Rattle.skeleton_class_laws.specs.Tallies.{side_at}
use Rattle.vertex_links.proofs.sides.side.Goals as goal

pub returns-clause-value : goal.returns-clause-value
unfolding side_at
returns-clause-value c = λ i. record { tet = c.args.place / 12; face = c.other-face.ensures.value i }
