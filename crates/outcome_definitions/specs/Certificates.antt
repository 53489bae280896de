-- What `check` and `descend` are to answer: whether moves certify a table as a sphere, or why not; and the moves of a
-- table's descent.
use Rattle.std.specs.Prelude.{◌≡◌, ℕ, Bool, true, false, List, ◌++◌, length, codes, decimal, Ok, Err}
use Rattle.std.specs.List.{flat_map}
use Rattle.table_definitions.specs.Table.{Row}
use Rattle.table_definitions.specs.TableText.{table_text}
use Rattle.move_definitions.specs.Moves.{Move}
use Rattle.move_definitions.specs.MoveText.{move_text}
use Rattle.move_definitions.specs.Sessions.{move_fault_text}
use Rattle.certificate_definitions.specs.declared.CheckFault.{CheckFault}
use Rattle.certificate_definitions.specs.declared.CheckFault.TheVariants.{Illegal, NotConnected, NotStandard}
use Rattle.certificate_definitions.specs.Answers.{CheckAnswer, IsChecked, Descended, DescentAnswer, IsDescentAnswer}
use Rattle.text_definitions.specs.Written.{line}
use Rattle.outcome_definitions.specs.declared.Status.TheVariants.{Refused}
use Rattle.outcome_definitions.specs.Lines.{accepted_text}
use Rattle.outcome_definitions.specs.Outcomes.{Outcome}
use Rattle.outcome_definitions.specs.Canonical.{done, not_connected_line, not_connected_outcome}

-- why moves certify no table: the first move that is refused, by its place from 1, or the last table, which is table 0,
-- is not connected, or has another signature than the standard sphere
unfoldable pub check_line : CheckFault (List ℕ) → List ℕ
check_line (Illegal step fault) = line (codes "refused: check illegal " ++ decimal step ++ codes " " ++ move_fault_text fault)
check_line (NotConnected t) = not_connected_line 0 t
check_line (NotStandard text) = line (codes "refused: check not-standard " ++ text)

abbrev pub check_outcome : CheckAnswer → Outcome
check_outcome (Ok u) = done accepted_text
check_outcome (Err fault) = record { status = Refused; text = check_line fault }

-- the answer of `check` to a table and moves
pub record IsCheckAnswer (d : List Row × List Move) (o : Outcome) : Type 0 where
  pub reported : CheckAnswer
  pub checked : IsChecked d.0 d.1 reported
  pub outcome : o ≡ check_outcome reported

-- one line for each move
unfoldable pub moves_text : List Move → List ℕ
moves_text moves = flat_map move_text moves

-- a table, followed by a line for each move
abbrev pub table_then_moves : List Row → List Move → List ℕ
table_then_moves rows moves = table_text rows ++ moves_text moves

-- whether a descent reached the standard sphere, and its number of moves
abbrev pub descent_word : Bool → List ℕ
descent_word true = codes "reached "
descent_word false = codes "stuck "

-- its moves, and the table at which it ended
abbrev pub descent_text : Descended → List ℕ
descent_text d = line (descent_word d.reached ++ decimal (length d.moves)) ++ moves_text d.moves ++ table_text d.table

abbrev pub descend_outcome : DescentAnswer → Outcome
descend_outcome (Ok d) = done (descent_text d)
descend_outcome (Err t) = not_connected_outcome 0 t

-- the answer of `descend` to a table
pub record IsDescendAnswer (rows : List Row) (o : Outcome) : Type 0 where
  pub reported : DescentAnswer
  pub descended : IsDescentAnswer rows reported
  pub outcome : o ≡ descend_outcome reported
