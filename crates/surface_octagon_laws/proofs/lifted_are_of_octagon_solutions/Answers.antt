-- The triangles are those of the lift.
use Rattle.surface_octagon_laws.proofs.Correspondence.{lifted_are_of}
use Rattle.surface_octagon_laws.proofs.lifted_are_of_octagon_solutions.Goals as goal

pub returns : goal.returns
returns c = λ s xs k w. lifted_are_of s k xs w
