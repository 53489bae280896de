use Rattle.std.proofs.Common.{◌≡◌, take}
use Rattle.surface_definitions.specs.QuadEquations.{quad_equation}
use Rattle.matching_equations.proofs.quads.first_columns.Given as goal

abbrev pub invariant-loop-corner : goal.invariant-loop-corner
invariant-loop-corner l = l.columns.items ≡ (quad_equation (take l.corner-index l.corners)).left
