use Rattle.skeleton_class_laws.proofs.Cases.{numbers_are}
use Rattle.skeleton.proofs.edges.number_of_edge.Goals as goal

pub returns : goal.returns
returns c = numbers_are c.args.a c.args.b c.requires.first c.requires.second
