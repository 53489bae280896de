-- None of the moves so far is accepted.
use Rattle.std.specs.Prelude.{◌≡◌, find, take, None}
use Rattle.move_definitions.specs.Certificates.{moves_at, is_accepted}
use Rattle.sphere_certificate.proofs.accepted.first_at.Given as goal

abbrev pub invariant-loop-core : goal.invariant-loop-core
invariant-loop-core l = find (is_accepted l.table) (moves_at l.tet (take l.core-index l.cores)) ≡ None
