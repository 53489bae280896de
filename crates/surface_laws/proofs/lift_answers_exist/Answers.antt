-- The classes are checked one after another.
use Rattle.surface_laws.proofs.Spreading.{lift_answer}
use Rattle.surface_laws.proofs.lift_answers_exist.Goals as goal

pub returns : goal.returns
returns c = λ max s xs k w. lift_answer max s k xs w
