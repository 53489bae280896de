use Rattle.std.proofs.Common.{◌≡◌, true, false, refl}
use Rattle.table_definitions.specs.Permutation.{is_permutation}
use Rattle.skeleton_class_laws.specs.Rounds.{swap}
use Rattle.skeleton.proofs.corners.swap.Goals as goal

swap_permutes : is_permutation swap ≡ true
unfolding is_permutation
swap_permutes = refl

pub unreachable-requires : goal.unreachable-requires
unreachable-requires c = let z : false ≡ true = c.in-None.ensures.permutes.1 swap_permutes in cc
