-- The moves so far reach the table, and it is known whether the table is standard.
use Rattle.std.specs.Prelude.{◌≡◌, ◌↔◌, true, length}
use Rattle.move_definitions.specs.Certificates.{IsStandard}
use Rattle.certificate_definitions.specs.SoFar.{DescendsSoFar}
use Rattle.sphere_certificate.proofs.descending.descent_of.Given as goal

abbrev pub invariant-loop-next : goal.invariant-loop-next
invariant-loop-next l = DescendsSoFar l.table l.moves.items l.last × ((l.reached ≡ true) ↔ IsStandard l.last)

abbrev pub decreases-loop-next : goal.decreases-loop-next
decreases-loop-next l = length l.last
