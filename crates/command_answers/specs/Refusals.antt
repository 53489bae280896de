-- The outcome of an error in the input.
use Rattle.std.specs.Prelude.{◌≡◌, ◌≢◌}
use Rattle.signature_definitions.specs.declared.InputFault.{InputFault}
use Rattle.signature_definitions.specs.declared.InputFault.TheVariants.{NoMemory}
use Rattle.outcome_definitions.specs.Outcomes.{Outcome, fault_outcome}

-- the outcome of the error, which is not out of memory
abbrev pub IsFaultOutcome : InputFault → Outcome → Type 0
IsFaultOutcome fault o = (fault ≢ NoMemory) × (o ≡ fault_outcome fault)
