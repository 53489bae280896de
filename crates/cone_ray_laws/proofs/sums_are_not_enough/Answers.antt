-- The lemmas are the laws.
use Rattle.cone_ray_laws.proofs.OneEach.{sums_of_one, one_not_extreme}
use Rattle.cone_ray_laws.proofs.sums_are_not_enough.Goals as goal

pub returns : goal.returns
returns c = record { sums = sums_of_one; not_extreme = one_not_extreme }
