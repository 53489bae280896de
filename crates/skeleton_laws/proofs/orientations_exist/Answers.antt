-- The lemma is the law.
use Rattle.skeleton_laws.proofs.Oriented.{some_orientation}
use Rattle.skeleton_laws.proofs.orientations_exist.Goals as goal

pub returns : goal.returns
returns c = some_orientation
