-- The outcome of a run: the exit status, and the text that is to be written.
use Rattle.std.specs.Prelude.{◌≡◌, ℕ, List, Result, Ok, Err, ⊤}
use Rattle.outcome_definitions.specs.declared.Status.{Status}
use Rattle.outcome_definitions.specs.declared.Status.TheVariants.{Done, Usage, Input, Refused, Large, ReadFault, WriteFault, NoMemory}
use Rattle.outcome_definitions.specs.Lines.{usage_line, read_line, too_long_line, input_line}
use Rattle.signature_definitions.specs.declared.InputFault.{InputFault}

pub record Outcome : Type 0 where
  pub status : Status
  pub text : List ℕ

abbrev pub usage_outcome : Outcome
usage_outcome = record { status = Usage; text = usage_line }

abbrev pub read_outcome : Outcome
read_outcome = record { status = ReadFault; text = read_line }

abbrev pub too_long_outcome : Outcome
too_long_outcome = record { status = Input; text = too_long_line }

-- the outcome if the input is no document
abbrev pub fault_outcome : InputFault → Outcome
fault_outcome f = record { status = Input; text = input_line f }

-- the outcome of a command that reads a document, given its answer to the value of the document
abbrev pub IsReadOutcome : {A : Type 0} → Result A InputFault → (A → Outcome → Type 0) → Outcome → Type 0
IsReadOutcome (Ok value) IsAnswer o = IsAnswer value o
IsReadOutcome (Err fault) IsAnswer o = o ≡ fault_outcome fault

-- the statuses of outcomes of accepted words
abbrev pub IsOwnStatus : Status → Type 0
IsOwnStatus Done = ⊤
IsOwnStatus Input = ⊤
IsOwnStatus Refused = ⊤
IsOwnStatus Large = ⊤
IsOwnStatus Usage = ⊥
IsOwnStatus ReadFault = ⊥
IsOwnStatus WriteFault = ⊥
IsOwnStatus NoMemory = ⊥
