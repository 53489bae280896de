-- A lift is a solution with these quads.
use Rattle.surface_quad_laws.proofs.Lifted.{lifted_solve}
use Rattle.surface_quad_laws.proofs.lifted_solve_quads.Goals as goal

pub returns : goal.returns
returns c = λ s quad_rows xs lift k are w l. lifted_solve s k quad_rows xs lift are w l
