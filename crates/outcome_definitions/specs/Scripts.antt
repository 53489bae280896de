-- What `play` is to answer: a line for each step, and the table of the session then.
use Rattle.std.specs.Prelude.{◌≡◌, List, ℕ, ◌++◌}
use Rattle.std.specs.List.{flat_map}
use Rattle.table_definitions.specs.Table.{Row}
use Rattle.table_definitions.specs.TableText.{table_text}
use Rattle.move_definitions.specs.MoveText.{Step}
use Rattle.move_definitions.specs.Sessions.{Session, IsTableOf, begun, StepAnswer, AreSteps, step_answer_text}
use Rattle.text_definitions.specs.Written.{line}
use Rattle.outcome_definitions.specs.declared.Status.TheVariants.{Done}
use Rattle.outcome_definitions.specs.Outcomes.{Outcome}

-- one line for each answer
unfoldable pub answers_text : List StepAnswer → List ℕ
answers_text answers = flat_map (λ a. line (step_answer_text a)) answers

abbrev pub script_outcome : List StepAnswer → List Row → Outcome
script_outcome answers table = record { status = Done; text = answers_text answers ++ table_text table }

-- the answer of `play` to a table and steps
abbrev pub IsScriptAnswer : List Row × List Step → Outcome → Type 0
IsScriptAnswer d o = (answers : List StepAnswer) × (last : Session) × (table : List Row)
    × AreSteps (begun d.0) d.1 answers last × IsTableOf last table × (o ≡ script_outcome answers table)
