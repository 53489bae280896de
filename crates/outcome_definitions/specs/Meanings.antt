-- What a command is to answer: the document that it reads, and the outcomes that are right for the document.
use Rattle.std.specs.Prelude.{ℕ, List, Result}
use Rattle.signature_definitions.specs.declared.InputFault.{InputFault}
use Rattle.outcome_definitions.specs.Outcomes.{Outcome, IsReadOutcome}

-- The meaning of a command: the document that the bytes of its input spell, and the relation between the value of this
-- document and the right outcome; or, if it reads no input, the right outcomes alone.
pub data CommandMeaning : Type 1 where
  Reads : {A : Type 0} → (List ℕ → Result A InputFault) → (A → Outcome → Type 0) → CommandMeaning
  Alone : (Outcome → Type 0) → CommandMeaning

-- the outcome of a command with this meaning, for the bytes of an input that is not too long
abbrev pub IsOutcomeBy : CommandMeaning → List ℕ → Outcome → Type 0
IsOutcomeBy (Reads document IsAnswer) bytes o = IsReadOutcome (document bytes) IsAnswer o
IsOutcomeBy (Alone IsAnswer) bytes o = IsAnswer o
