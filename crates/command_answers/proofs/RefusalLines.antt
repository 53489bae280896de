-- The outcome of the error of a reader is that of the input.
use Rattle.std.proofs.Common.{Result, sym, subst}
use Rattle.text_definitions.specs.Reading.{Fails}
use Rattle.signature_definitions.specs.declared.InputFault.{InputFault}
use Rattle.signature_definitions.specs.declared.InputFault.TheVariants.{NoMemory}
use Rattle.outcome_definitions.specs.Outcomes.{Outcome, IsReadOutcome}
use Rattle.command_answers.specs.Refusals.{IsFaultOutcome}

pub input_refused : {A : Type 0} (IsAnswer : A → Outcome → Type 0) (e : InputFault) (read : Result A InputFault) (o : Outcome)
    → Fails NoMemory e read → IsFaultOutcome e o → IsReadOutcome read IsAnswer o
input_refused {A} IsAnswer e read o fails (other, is) = subst (λ (r : Result A InputFault). IsReadOutcome r IsAnswer o) (sym (fails other)) is
