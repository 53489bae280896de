-- Each tetrahedron so far is its own image.
use Rattle.std.proofs.Common.{◌≡◌, map}
use Rattle.table_definitions.specs.Lists.{below}
use Rattle.table_definitions.specs.Permutation.{identity}
use Rattle.tri_build.proofs.inverse_moves.staying.Given as goal

abbrev pub invariant-loop-tet : goal.invariant-loop-tet
invariant-loop-tet l = (l.images.items ≡ below l.tet) × (l.perms.items ≡ map (λ t. identity) (below l.tet))
