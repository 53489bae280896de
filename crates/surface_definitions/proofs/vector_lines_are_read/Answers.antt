-- What is read is in the grammar, and what is in the grammar is read.
use Rattle.surface_definitions.proofs.VectorLaws.{vector_read, vector_found}
use Rattle.surface_definitions.proofs.vector_lines_are_read.Goals as goal

pub returns : goal.returns
returns c = λ left xs. ((λ r. (vector_read left xs r.left r.read).line), vector_found left xs)
