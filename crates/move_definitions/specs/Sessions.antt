-- Sessions: moves that are played, taken back and played once more.
use Rattle.std.specs.Prelude.{◌≡◌, ℕ, ◌+◌, ◌-◌, ◌<◌, ◌≤◌, List, [], ◌∷◌, ◌++◌, length, take, None, Some, codes, decimal}
use Rattle.table_definitions.specs.Table.{Row}
use Rattle.move_definitions.specs.declared.MoveFault.{MoveFault}
use Rattle.move_definitions.specs.declared.MoveFault.TheVariants.{NoSuchTet, Boundary, Repeated, NotMatched, TooMany}
use Rattle.move_definitions.specs.Moves.{Move, play_fault, PlaysAll}
use Rattle.move_definitions.specs.MoveText as text

-- a first table, the moves that are kept, and how many of them are played
pub record Session : Type 0 where
  pub first : List Row
  pub moves : List Move
  pub played : ℕ

-- the moves in effect lead from the first table to this one
pub record IsTableOf (s : Session) (table : List Row) : Type 0 where
  pub in_range : s.played ≤ length s.moves
  pub reached : PlaysAll s.first (take s.played s.moves) table
  -- the others can be played too
  pub others : (last : List Row) × PlaysAll s.first s.moves last

-- no move is played yet
abbrev pub begun : List Row → Session
begun first = record { first = first; moves = []; played = 0 }

-- the move is played after those in effect, and the undone moves are dropped
abbrev pub with_move : Session → Move → Session
with_move s m = record { first = s.first; moves = take s.played s.moves ++ m ∷ []; played = s.played + 1 }

abbrev pub one_less : Session → Session
one_less s = record s { played = s.played - 1 }

abbrev pub one_more : Session → Session
one_more s = record s { played = s.played + 1 }

-- a move is refused with this fault, or accepted
abbrev pub IsRefused : Session → Move → MoveFault → Type 0
IsRefused s m fault = (table : List Row) × IsTableOf s table × (play_fault table m ≡ Some fault)

abbrev pub IsAccepted : Session → Move → Type 0
IsAccepted s m = (table : List Row) × IsTableOf s table × (play_fault table m ≡ None)

-- the result of a step
pub data StepAnswer : Type 0 where
  done : StepAnswer
  illegal : MoveFault → StepAnswer
  undone : StepAnswer
  redone : StepAnswer
  nothing : StepAnswer

-- a step of a session has this result, and changes the session to this one
abbrev pub IsSessionStep : Session → text.Step → StepAnswer → Session → Type 0
IsSessionStep s (text.play m) done after = IsAccepted s m × (after ≡ with_move s m)
IsSessionStep s (text.play m) (illegal fault) after = IsRefused s m fault × (after ≡ s)
IsSessionStep s (text.play m) undone after = ⊥
IsSessionStep s (text.play m) redone after = ⊥
IsSessionStep s (text.play m) nothing after = ⊥
IsSessionStep s text.undo undone after = (0 < s.played) × (after ≡ one_less s)
IsSessionStep s text.undo nothing after = (s.played ≡ 0) × (after ≡ s)
IsSessionStep s text.undo done after = ⊥
IsSessionStep s text.undo redone after = ⊥
IsSessionStep s text.undo (illegal fault) after = ⊥
IsSessionStep s text.redo redone after = (s.played < length s.moves) × (after ≡ one_more s)
IsSessionStep s text.redo nothing after = (s.played ≡ length s.moves) × (after ≡ s)
IsSessionStep s text.redo done after = ⊥
IsSessionStep s text.redo undone after = ⊥
IsSessionStep s text.redo (illegal fault) after = ⊥

-- the steps are answered one after another
abbrev pub AreSteps : Session → List text.Step → List StepAnswer → Session → Type 0
AreSteps s [] [] last = s ≡ last
AreSteps s [] (a ∷ answers) last = ⊥
AreSteps s (step ∷ steps) [] last = ⊥
AreSteps s (step ∷ steps) (a ∷ answers) last = (next : Session) × IsSessionStep s step a next × AreSteps next steps answers last

-- what is written for the fault of a move
abbrev pub move_fault_text : MoveFault → List ℕ
move_fault_text NoSuchTet = codes "no-such-tet"
move_fault_text (Boundary label) = codes "boundary " ++ decimal label
move_fault_text (Repeated label) = codes "repeated " ++ decimal label
move_fault_text (NotMatched first second) = codes "not-matched " ++ decimal first ++ codes " " ++ decimal second
move_fault_text TooMany = codes "too-many"

-- what is written for the answer to a step, without the line's end
abbrev pub step_answer_text : StepAnswer → List ℕ
step_answer_text done = codes "done"
step_answer_text (illegal fault) = codes "illegal " ++ move_fault_text fault
step_answer_text undone = codes "undone"
step_answer_text redone = codes "redone"
step_answer_text nothing = codes "nothing"
