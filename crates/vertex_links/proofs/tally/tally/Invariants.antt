use Rattle.skeleton_class_laws.specs.Tallies.{AreTalliesUpTo}
use Rattle.vertex_links.proofs.tally.tally.Given as goal

abbrev pub invariant-loop-thing : goal.invariant-loop-thing
invariant-loop-thing l = AreTalliesUpTo l.thing l.passes l.owners l.count l.tallies.items
