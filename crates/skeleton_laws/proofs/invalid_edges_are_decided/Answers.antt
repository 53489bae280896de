-- The lemmas are the laws.
use Rattle.skeleton_laws.proofs.Skeletons.{invalid_or_not, some_first_invalid}
use Rattle.skeleton_laws.proofs.invalid_edges_are_decided.Goals as goal

pub returns : goal.returns
returns c = record { decided = invalid_or_not; first = some_first_invalid }
