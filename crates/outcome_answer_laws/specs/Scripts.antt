-- The table that `play` prints: the result of the moves in effect at the end.
use Rattle.std.specs.Prelude.{◌≡◌, ◌≤◌, ℕ, List, ◌++◌, length, map, take, replicate}
use Rattle.table_definitions.specs.Table.{Row}
use Rattle.move_definitions.specs.Moves.{Move, PlaysAll}
use Rattle.move_definitions.specs.MoveText.{Step, play, undo}
use Rattle.move_definitions.specs.Sessions.{Session, IsTableOf, begun, StepAnswer, AreSteps}
use Rattle.move_definitions.specs.Sessions as sessions
use Rattle.text_document_definitions.specs.Documents.{steps_document}
use Rattle.command_definitions.specs.declared.Request.TheVariants.{Play}
use Rattle.outcome_definitions.specs.Outcomes.{Outcome}
use Rattle.outcome_definitions.specs.Scripts.{script_outcome}
use Rattle.outcome_answer_laws.specs.Requests.{Means}

-- moves that can all be played are all done, and their result is the table
abbrev pub MovesAreDone : List Row × List Step → Outcome → Type 0
MovesAreDone d o = (moves : List Move) (end : List Row) → d.1 ≡ map play moves → PlaysAll d.0 moves end → o ≡ script_outcome (map (λ (m : Move). sessions.done) moves) end

-- after any steps, moves that can all be played and are all undone leave the table that resulted from these steps
abbrev pub MovesAreTakenBack : List Row × List Step → Outcome → Type 0
MovesAreTakenBack d o =
    (before : List Step) (answers : List StepAnswer) (session : Session) (table : List Row) (moves : List Move) (end : List Row)
    → AreSteps (begun d.0) before answers session → IsTableOf session table → PlaysAll table moves end
    → d.1 ≡ before ++ (map play moves ++ map (λ (m : Move). undo) moves)
    → o ≡ script_outcome (answers ++ (map (λ (m : Move). sessions.done) moves ++ map (λ (m : Move). sessions.undone) moves)) table

-- what is printed is the table to which the moves lead that are played at the end; as many undos at the end as there
-- are steps before lead back to the table of the input
pub record IsPlayed (d : List Row × List Step) (o : Outcome) : Type 0 where
  pub answers : List StepAnswer
  pub last : Session
  pub answered : AreSteps (begun d.0) d.1 answers last
  pub table : List Row
  pub reached : PlaysAll d.0 (take last.played last.moves) table
  pub outcome : o ≡ script_outcome answers table
  pub moves_done : MovesAreDone d o
  pub moves_taken_back : MovesAreTakenBack d o
  pub all_taken_back : (before : List Step) (undos : ℕ) → d.1 ≡ before ++ replicate undos undo → length before ≤ undos → table ≡ d.0

abbrev pub ScriptsArePlayed : Type 0
ScriptsArePlayed = Means Play steps_document IsPlayed
