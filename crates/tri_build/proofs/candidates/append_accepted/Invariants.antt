-- The accepted moves of the tetrahedra so far come after the earlier moves.
use Rattle.std.proofs.Common.{◌≡◌, ◌++◌}
use Rattle.std.specs.Prelude.{filter}
use Rattle.move_definitions.specs.Certificates.{moves_with, is_accepted}
use Rattle.tri_build.proofs.candidates.append_accepted.Given as goal

abbrev pub invariant-loop-tet : goal.invariant-loop-tet
invariant-loop-tet l = l.moves.items ≡ l.initial.moves.items ++ filter (is_accepted l.table) (moves_with l.cores l.tet)
