use Rattle.skeleton_definitions.specs.Skeleton.{AreLinksUpTo}
use Rattle.vertex_links.proofs.link.links.Given as goal

abbrev pub invariant-loop-class : goal.invariant-loop-class
invariant-loop-class l = AreLinksUpTo l.skeleton l.tallies.directions.classes.items l.class l.links.items
