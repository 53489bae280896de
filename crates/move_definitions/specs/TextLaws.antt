-- Laws over moves and steps in text.
use Rattle.std.specs.Prelude.{◌≡◌, ◌↔◌, ◌<◌, ◌^◌, [], ◌∷◌, Ok}
use Rattle.text_definitions.specs.Text.{Line, lines_of}
use Rattle.text_definitions.specs.Reading.{Reading}
use Rattle.move_definitions.specs.Moves.{Move, IsCore}
use Rattle.move_definitions.specs.MoveText.{Step, move_at, step_at, move_text}
use Rattle.move_definitions.specs.Grammar.{IsMoveLine, IsStepLine}

-- the move of the current line is read, and the line is used up
pub record ReadsMove (c : Reading) (m : Move) : Type 0 where
  pub left : Reading
  pub read : move_at c ≡ Ok (m, left)
  pub later : left.later ≡ c.later
  pub at_end : left.current.tokens ≡ []

-- the step of the current line is read, and the line is used up
pub record ReadsStep (c : Reading) (step : Step) : Type 0 where
  pub left : Reading
  pub read : step_at c ≡ Ok (step, left)
  pub later : left.later ≡ c.later
  pub at_end : left.current.tokens ≡ []

-- Theorem: a line is read as a move if and only if it spells one
abbrev pub MovesAreRead : Type 0
MovesAreRead = (c : Reading) (m : Move) → ReadsMove c m ↔ IsMoveLine c.current m

-- Theorem: a line is read as a step if and only if it spells one
abbrev pub StepsAreRead : Type 0
StepsAreRead = (c : Reading) (step : Step) → ReadsStep c step ↔ IsStepLine c.current step

-- what is written for a move is one line, which is that move
abbrev pub WrittenMovesAreRead : Type 0
WrittenMovesAreRead = (m : Move) → m.tet < 2 ^ 32 → IsCore m.core → (line : Line) × (lines_of (move_text m) ≡ line ∷ []) × IsMoveLine line m
