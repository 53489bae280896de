-- The lemmas are the laws.
use Rattle.cone_laws.proofs.Bound.{union_bound}
use Rattle.cone_laws.proofs.Pairs.{pair_bound, pair_of_step_bound}
use Rattle.cone_laws.proofs.unions_are_small.Goals as goal

pub returns : goal.returns
returns c = record { faces = union_bound; pairs = pair_bound; steps = pair_of_step_bound }
