-- The result of a call from C.
use Rattle.std.specs.Prelude.{◌≡◌, ◌==◌, ◌⊎◌, ◌<◌, ℕ, List, length, take, drop}
use Rattle.std.specs.List.{slice_split}
use Rattle.outcome_definitions.specs.Outcomes.{Outcome}
use Rattle.outcome_definitions.specs.Answers.{IsOutcome}
use Rattle.workbench.specs.Codes.{code_of}

-- the words, with a zero byte between each two
abbrev pub words_of : List ℕ → List (List ℕ)
words_of bytes = slice_split (λ b. b == 0) bytes

-- the outcome of the words and the input has this code and this text, of needed bytes
pub record IsCallAnswer (words : List (List ℕ)) (input : List ℕ) (status : ℕ) (text : List ℕ) (needed : ℕ) : Type 0 where
  pub outcome : Outcome
  pub is_outcome : IsOutcome words input outcome
  pub code : status ≡ code_of outcome.status
  pub reported : text ≡ outcome.text
  pub long : needed ≡ length outcome.text

-- the text of the outcome of the words and the input has needed bytes, more than room
pub record IsLonger (words : List (List ℕ)) (input : List ℕ) (room needed : ℕ) : Type 0 where
  pub outcome : Outcome
  pub is_outcome : IsOutcome words input outcome
  pub long : needed ≡ length outcome.text
  pub exceeded : room < needed

-- the statuses: those of outcomes, too little room, out of memory, and words that are not UTF-8
abbrev pub IsCallStatus : ℕ → Type 0
IsCallStatus n = (n ≡ 0) ⊎ (n ≡ 2) ⊎ (n ≡ 3) ⊎ (n ≡ 4) ⊎ (n ≡ 5) ⊎ (n ≡ 7) ⊎ (n ≡ 8) ⊎ (n ≡ 9)

-- an outcome's text was copied into the room if it fits, and its length was written
pub record IsHandedOut (o : Outcome) (result : ℕ) (room answer : List ℕ) (needed : ℕ) : Type 0 where
  pub long : needed ≡ length o.text
  pub rest : drop needed answer ≡ drop needed room
  pub cases : ((result ≡ code_of o.status) × (take needed answer ≡ o.text)) ⊎ ((result ≡ 7) × (length room < length o.text) × (answer ≡ room))
