-- The lemmas are the law.
use Rattle.skeleton_definitions.proofs.OneSkeleton.{one_skeleton}
use Rattle.skeleton_laws.proofs.Skeletons.{some_skeleton}
use Rattle.skeleton_laws.proofs.skeletons_exist.Goals as goal

pub returns : goal.returns
returns c = record { some = some_skeleton; one = one_skeleton }
