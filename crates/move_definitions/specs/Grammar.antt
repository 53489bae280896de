-- The forms of moves and steps in text, as relations between lines and values.
use Rattle.std.specs.Prelude.{ℕ, ◌-◌, ◌^◌, ◌<◌, List, [], ◌∷◌, codes}
use Rattle.table_definitions.specs.Permutation.{four, digits_of, others}
use Rattle.text_definitions.specs.Text.{Line}
use Rattle.move_definitions.specs.Moves.{Move}
use Rattle.move_definitions.specs.MoveText.{Step, play, undo, redo}
use Rattle.table_definitions.specs.Grammar.{AreWords, IsDecimalUpTo}

-- the words after the tetrahedron number of a move, for each kind
pub data IsCoreText : List ℕ → List (List ℕ) → List ℕ → Type 0 where
  one_four : IsCoreText (codes "14") [] four
  two_three : (f : ℕ) → f < 4 → IsCoreText (codes "23") (digits_of (f ∷ []) ∷ []) (others f)
  three_two : (a b : ℕ) → a < b → b < 4 → IsCoreText (codes "32") (digits_of (a ∷ b ∷ []) ∷ []) (a ∷ b ∷ [])
  four_one : (v : ℕ) → v < 4 → IsCoreText (codes "41") (digits_of (v ∷ []) ∷ []) (v ∷ [])

-- a move line
pub record IsMoveLine (line : Line) (m : Move) : Type 0 where
  pub kind : List ℕ
  pub tet : List ℕ
  pub core : List (List ℕ)
  pub are_words : AreWords line.tokens (kind ∷ tet ∷ core)
  pub number : IsDecimalUpTo (2 ^ 32 - 1) tet m.tet
  pub core_text : IsCoreText kind core m.core

-- a step line
abbrev pub IsStepLine : Line → Step → Type 0
IsStepLine line (play m) = IsMoveLine line m
IsStepLine line undo = AreWords line.tokens (codes "undo" ∷ [])
IsStepLine line redo = AreWords line.tokens (codes "redo" ∷ [])
