-- A lift, a least class without one and a large sum rule each other out.
use Rattle.surface_laws.proofs.LiftLemmas.{one_lift_answer}
use Rattle.surface_laws.proofs.lift_answers_are_determined.Goals as goal

pub returns : goal.returns
returns c = λ max s xs a b k f g. one_lift_answer max s xs a b k f g
