-- A lift is a solution, and the quads of a solution have a lift.
use Rattle.surface_quad_laws.proofs.Lifted.{lifted_are_quads}
use Rattle.surface_quad_laws.proofs.lifted_are_quads.Goals as goal

pub returns : goal.returns
returns c = λ s xs k w. lifted_are_quads s k xs w
