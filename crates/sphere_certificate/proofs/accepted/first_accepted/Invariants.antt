use Rattle.std.specs.Prelude.{◌≡◌, find, None}
use Rattle.move_definitions.specs.Certificates.{moves_with, is_accepted}
use Rattle.sphere_certificate.proofs.accepted.first_accepted.Given as goal

abbrev pub invariant-loop-tet : goal.invariant-loop-tet
invariant-loop-tet l = find (is_accepted l.table) (moves_with l.cores l.tet) ≡ None
