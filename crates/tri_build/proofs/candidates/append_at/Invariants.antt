-- The accepted moves with the cores so far come after the earlier moves.
use Rattle.std.proofs.Common.{◌≡◌, ◌++◌, take}
use Rattle.std.specs.Prelude.{filter}
use Rattle.move_definitions.specs.Certificates.{is_accepted, moves_at}
use Rattle.tri_build.proofs.candidates.append_at.Given as goal

abbrev pub invariant-loop-core : goal.invariant-loop-core
invariant-loop-core l = l.moves.items ≡ l.initial.moves.items ++ filter (is_accepted l.table) (moves_at l.tet (take l.core-index l.cores))
