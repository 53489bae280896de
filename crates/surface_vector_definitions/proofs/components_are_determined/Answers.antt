-- The components are unique, and so is the number of pieces.
use Rattle.surface_vector_definitions.proofs.Determined.{one_answer}
use Rattle.surface_vector_definitions.proofs.components_are_determined.Goals as goal

pub returns : goal.returns
returns c = one_answer
