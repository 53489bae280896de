-- What was written is the outcome of the words and of the input, or a prefix of the correct text.
use Rattle.std.proofs.Common.{◌≡◌, ℕ, inl, inr, List, Option, Some, None, sym, ◌∙◌, ap, subst}
use Rattle.std.specs.Prelude.{IfSome}
use Rattle.text_io.specs.Causes.{Grows}
use Rattle.command_definitions.specs.declared.Request.{Request}
use Rattle.command_definitions.specs.Words.{accepted_request}
use Rattle.outcome_definitions.specs.declared.Status.{Status}
use Rattle.outcome_definitions.specs.declared.Status.TheVariants.{ReadFault, WriteFault}
use Rattle.outcome_definitions.specs.Outcomes.{Outcome, IsOwnStatus}
use Rattle.outcome_definitions.specs.Answers.{IsOutcome, IsOutcomeOf, IsRequestOutcome}
use Rattle.workbench.specs.Runs.{IsAnswered, IsReadWell, IsResponse, IsCutOff, IsDelivered, IsToBeWritten, IsOutcomeAlone}

module _ (words : List (List ℕ)) (r : Request) (accepted : accepted_request words ≡ Some r) (rest : Option (List ℕ)) (before now : ℕ) (o : Outcome)
    (held grown : Option (List ℕ)) (faults_before faults_now : ℕ) (status : Status) where
  outcome_of_words : (bytes : List ℕ) → IsRequestOutcome r bytes o → IsOutcome words bytes o
  outcome_of_words bytes h = subst (λ (asked : Option Request). IsOutcomeOf asked bytes o) (sym accepted) h

  -- the clause for a status that is neither a failure nor that memory ran out
  abbrev Answered : List ℕ → Type 0
  Answered bytes = (p : Outcome) × IsOutcome words bytes p × (status ≡ p.status) × Grows held grown p.text

  answered_well : (left : Option (List ℕ)) → IsReadWell r left rest before now o → status ≡ o.status → Grows held grown o.text → IfSome left Answered
  answered_well None well same grows = tt
  answered_well (Some bytes) well same grows = (o, outcome_of_words bytes well.outcome, same, grows)

  pub run_outcome : (left : Option (List ℕ)) → IsResponse r left rest before now o → IsDelivered o status held grown faults_before faults_now → IsAnswered status → IfSome left Answered
  run_outcome left (inl fault) (inl whole) h = absurd (let e : status ≡ ReadFault = whole.0 ∙ ap (λ (p : Outcome). p.status) fault.outcome in subst IsAnswered e h)
  run_outcome left (inl fault) (inr cut) h = absurd (subst IsAnswered cut.0 h)
  run_outcome left (inr well) (inl whole) h = answered_well left well whole.0 whole.1
  run_outcome left (inr well) (inr cut) h = absurd (subst IsAnswered cut.0 h)

  -- the clause for a failed sink
  abbrev CutOff : Option (List ℕ) → Type 0
  CutOff left = (p : Outcome) × IsToBeWritten words left before now p × IsCutOff held grown p.text

  told_of_words : (left : Option (List ℕ)) → IfSome left (λ bytes. IsRequestOutcome r bytes o) → IfSome left (λ bytes. IsOutcome words bytes o)
  told_of_words None h = tt
  told_of_words (Some bytes) h = outcome_of_words bytes h

  due_well : (left : Option (List ℕ)) → IsReadWell r left rest before now o → IsToBeWritten words left before now o
  due_well left well = inr (well.calm, told_of_words left well.outcome, subst (λ (asked : Option Request). IsOutcomeAlone asked o) (sym accepted) well.alone)

  pub run_prefix : (left : Option (List ℕ)) → IsResponse r left rest before now o → IsDelivered o status held grown faults_before faults_now → status ≡ WriteFault → CutOff left
  run_prefix left (inl fault) (inl whole) e =
      absurd (let same : ReadFault ≡ WriteFault = sym (ap (λ (p : Outcome). p.status) fault.outcome) ∙ sym whole.0 ∙ e in cc)
  run_prefix left (inl fault) (inr cut) e = (o, inl fault, cut.1)
  run_prefix left (inr well) (inl whole) e = absurd (subst IsOwnStatus (sym whole.0 ∙ e) well.own_status)
  run_prefix left (inr well) (inr cut) e = (o, due_well left well, cut.1)
