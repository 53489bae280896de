-- Accepted words, an input that is not too long, and their outcome.
use Rattle.std.specs.Prelude.{◌≡◌, ◌≤◌, ℕ, List, length, Some, Result, Ok}
use Rattle.signature_definitions.specs.declared.InputFault.{InputFault}
use Rattle.command_definitions.specs.declared.Request.{Request}
use Rattle.command_definitions.specs.Words.{accepted_request}
use Rattle.outcome_definitions.specs.Outcomes.{Outcome}
use Rattle.outcome_definitions.specs.Answers.{IsOutcome, most_bytes}

-- the words ask for this request, the input is within the limit of bytes, and the outcome is theirs
pub record IsOutcomeTo (request : Request) (words : List (List ℕ)) (bytes : List ℕ) (o : Outcome) : Type 0 where
  pub accepted : accepted_request words ≡ Some request
  pub within : length bytes ≤ most_bytes
  pub outcome : IsOutcome words bytes o

-- where an input is such a document, the outcome of this request says this of what was read
abbrev pub Means : {A : Type 0} → Request → (List ℕ → Result A InputFault) → (A → Outcome → Type 0) → Type 0
Means {A} request document IsMeant = (words : List (List ℕ)) (bytes : List ℕ) (o : Outcome) (d : A) → IsOutcomeTo request words bytes o → document bytes ≡ Ok d → IsMeant d o
