-- Images and permutations are those of the tetrahedra so far.
use Rattle.std.proofs.Common.{◌≡◌, map}
use Rattle.table_definitions.specs.Lists.{below}
use Rattle.tri_build.specs.Standing.{image_at}
use Rattle.tri_build.proofs.inverse_moves.carry_back.Given as goal

abbrev pub invariant-loop-tet : goal.invariant-loop-tet
invariant-loop-tet l =
    (l.images.items ≡ map (λ t. (image_at l.step l.back l.on t).tet) (below l.tet)) × (l.perms.items ≡ map (λ t. (image_at l.step l.back l.on t).perm) (below l.tet))
