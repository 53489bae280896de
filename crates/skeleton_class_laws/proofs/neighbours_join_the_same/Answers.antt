-- The lemma is the law.
use Rattle.skeleton_class_laws.proofs.ClassTies.{joined_is_same}
use Rattle.skeleton_class_laws.proofs.neighbours_join_the_same.Goals as goal

pub returns : goal.returns
returns c = joined_is_same
