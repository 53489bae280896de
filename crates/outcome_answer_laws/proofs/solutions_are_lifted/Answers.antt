-- The lemmas are the laws.
use Rattle.outcome_answer_laws.proofs.Lifts.{none_without_lift, solutions_lifted}
use Rattle.outcome_answer_laws.proofs.solutions_are_lifted.Goals as goal

pub returns : goal.returns
returns c = record { none = none_without_lift; lifted = solutions_lifted }
