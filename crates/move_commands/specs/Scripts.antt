-- Steps, and the lines of their results.
use Rattle.std.specs.Prelude.{◌≡◌, ℕ, List, map, ◌++◌, Vec}
use Rattle.std.specs.declared.alloc.Global.{Global}
use Rattle.move_definitions.specs.MoveText as text
use Rattle.move_definitions.specs.Sessions.{Session, StepAnswer, IsSessionStep, AreSteps, step_answer_text}
use Rattle.move_undo.specs.declared.reader.Step.{Step}
use Rattle.move_undo.specs.Steps.{step_value}
use Rattle.outcome_definitions.specs.Scripts.{answers_text}
use Rattle.text_definitions.specs.Written.{line}

abbrev pub all_steps : List Step → List text.Step
all_steps steps = map step_value steps

abbrev pub steps_of : Vec Step Global → List text.Step
steps_of steps = all_steps steps.items

-- the step is run, and the line of its result is appended to written
abbrev pub Steps : Session → text.Step → Session → List ℕ → List ℕ → Type 0
Steps before step after written now = (a : StepAnswer) × IsSessionStep before step a after × (now ≡ written ++ line (step_answer_text a))

-- the steps are run in order, and text has the lines of their results
abbrev pub Plays : Session → List text.Step → Session → List ℕ → Type 0
Plays before steps after now = (answers : List StepAnswer) × AreSteps before steps answers after × (now ≡ answers_text answers)
