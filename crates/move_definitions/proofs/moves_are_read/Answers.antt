-- A move is read if and only if it is in the grammar.
use Rattle.move_definitions.proofs.MoveReadingLaws.{move_read}
use Rattle.move_definitions.proofs.MoveFoundLaws.{move_found}
use Rattle.move_definitions.proofs.moves_are_read.Goals as goal

pub returns : goal.returns
returns c = λ left m. ((λ r. (move_read left m r.left r.read).line), move_found left m)
