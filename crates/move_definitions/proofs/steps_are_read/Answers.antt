-- A step is read if and only if it is in the grammar.
use Rattle.move_definitions.proofs.MoveReadingLaws.{step_read}
use Rattle.move_definitions.proofs.MoveFoundLaws.{step_found}
use Rattle.move_definitions.proofs.steps_are_read.Goals as goal

pub returns : goal.returns
returns c = λ left s. ((λ r. (step_read left s r.left r.read).line), step_found left s)
