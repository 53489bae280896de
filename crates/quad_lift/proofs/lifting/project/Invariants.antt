-- The quads of the tetrahedra so far.
use Rattle.std.proofs.Common.{◌≡◌}
use Rattle.surface_definitions.specs.Lift.{projected}
use Rattle.quad_lift.proofs.lifting.project.Given as goal

abbrev pub invariant-loop-tet : goal.invariant-loop-tet
invariant-loop-tet l = l.quads.items ≡ projected l.tet l.x
