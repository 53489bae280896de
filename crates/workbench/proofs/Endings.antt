-- How a run ends, and what holds of it then: each case by itself, for the words, what was read and what was written.
use Rattle.std.proofs.Common.{◌≡◌, ℕ, false, List, [], Option, Some, None, inl, inr, refl, sym, ◌∙◌, ap, subst, arith}
use Rattle.std.specs.Prelude.{IfSome}
use Rattle.text_io.specs.Causes.{Grows, Rose}
use Rattle.command_definitions.specs.declared.Request.{Request}
use Rattle.command_definitions.specs.Requests.{reads_input}
use Rattle.command_definitions.specs.Words.{accepted_request}
use Rattle.command_words.specs.declared.WordsFault.{WordsFault}
use Rattle.command_words.specs.declared.WordsFault.TheVariants.{Usage as Unknown}
use Rattle.command_words.specs.Requests.{FailsWords}
use Rattle.outcome_definitions.specs.declared.Status.{Status}
use Rattle.outcome_definitions.specs.declared.Status.TheVariants.{Done, Usage, Input, Refused, Large, ReadFault, WriteFault, NoMemory}
use Rattle.outcome_definitions.specs.Lines.{read_line, usage_line}
use Rattle.outcome_definitions.specs.Outcomes.{Outcome, IsOwnStatus, usage_outcome}
use Rattle.outcome_definitions.specs.Answers.{IsOutcome, IsOutcomeOf, IsAnswerTo}
use Rattle.workbench.specs.Runs.{IsAnswered, IsCalm, IsWithinInputLimit, IsReadWell, IsResponse, IsCutOff, IsDelivered, IsToBeWritten, IsOutcomeAlone, IsRun}
use Rattle.workbench.proofs.RunClauses.{run_outcome, run_prefix}

own_answered : (status : Status) → IsOwnStatus status → IsAnswered status
own_answered Done h = tt
own_answered Input h = tt
own_answered Refused h = tt
own_answered Large h = tt
own_answered Usage h = absurd h
own_answered ReadFault h = absurd h
own_answered WriteFault h = absurd h
own_answered NoMemory h = absurd h

-- a status that equals one of accepted words is one
no_own : (status other : Status) → IsOwnStatus status → status ≡ other → IsOwnStatus other
no_own status other own e = subst IsOwnStatus e own

-- an unread source has at most as many bytes as before
pub all_within : (left : Option (List ℕ)) → IsWithinInputLimit left left
all_within None = tt
all_within (Some bytes) = omega arith

-- accepted words have one request
one_request : (words : List (List ℕ)) (asked request : Request) → accepted_request words ≡ Some asked → accepted_request words ≡ Some request → asked ≡ request
one_request words asked request accepted e = (let g : (let o : Option Request = Some asked in o ≡ Some request) = sym accepted ∙ e in cc)

-- the source is unread if the words ask for a command that reads no input
abbrev LeavesIdle : {X : Type 0} → List (List ℕ) → X → X → Type 0
LeavesIdle words source read = (request : Request) → accepted_request words ≡ Some request → reads_input request ≡ false → read ≡ source

pub idle_of : {X : Type 0} (words : List (List ℕ)) (source read : X) (asked : Request) → accepted_request words ≡ Some asked → (reads_input asked ≡ false → read ≡ source) → LeavesIdle words source read
idle_of words source read asked accepted idle request e nothing = idle (ap reads_input (one_request words asked request accepted e) ∙ nothing)

-- the words are not accepted if the error is that they are no command
pub refused_by : (fault : WordsFault) (asked : Option Request) → fault ≡ Unknown → FailsWords fault asked → asked ≡ None
refused_by fault asked is h = subst (λ (f : WordsFault). FailsWords f asked) is h

module _ {X Y : Type 0} (words : List (List ℕ)) (source read : X) (left rest : Option (List ℕ)) (faults read_faults : ℕ) (sink written : Y) (held grown : Option (List ℕ)) (sink_faults write_faults : ℕ) where
  abbrev Run : Status → Type 0
  Run result = IsRun words result source read left rest faults read_faults sink written held grown sink_faults write_faults

  -- the sink failed
  cut_run : (accepted_request words ≡ None → read ≡ source) → LeavesIdle words source read → (o : Outcome) → IsToBeWritten words left faults read_faults o → IsCutOff held grown o.text → Rose sink_faults write_faults → Run WriteFault
  cut_run refused idle o due cut rose = record {
    usage = λ e. (inr (inl refl), refused e);
    usage_alone = λ e. absurd cc;
    usage_reported = λ e. absurd cc;
    read_fault = λ small less. inr refl;
    read_fault_alone = λ e. absurd cc;
    read_fault_reported = λ e. absurd cc;
    write_fault = λ small. (λ e. rose small, λ less. refl);
    prefix = λ e. (o, due, cut);
    no_memory = λ e. absurd cc;
    no_memory_calm = λ e. absurd cc;
    no_memory_within = λ e. absurd cc;
    outcome = λ answered. absurd answered;
    end = λ request e reads done. absurd cc;
    untouched = idle;
    words_alone = λ request e nothing answered. absurd answered;
    answered = λ small room same still. absurd (let risen = rose room in omega (arith, risen, still));
  }

  -- memory ran out
  pub spent_run : (accepted_request words ≡ None → read ≡ source) → LeavesIdle words source read → IsCalm faults read_faults → IsWithinInputLimit left rest → written ≡ sink → write_faults ≡ sink_faults → Run NoMemory
  spent_run refused idle calm within same still = record {
    usage = λ e. (inr (inr refl), refused e);
    usage_alone = λ e. absurd cc;
    usage_reported = λ e. absurd cc;
    read_fault = λ small less. absurd (let stood = calm small in omega (arith, stood, less));
    read_fault_alone = λ e. absurd cc;
    read_fault_reported = λ e. absurd cc;
    write_fault = λ small. (λ e. absurd cc, λ less. absurd (omega (arith, still, less)));
    prefix = λ e. absurd cc;
    no_memory = λ e. same;
    no_memory_calm = λ e. calm;
    no_memory_within = λ e. within;
    outcome = λ answered. absurd answered;
    end = λ request e reads done. absurd cc;
    untouched = idle;
    words_alone = λ request e nothing answered. absurd answered;
    answered = λ small room same_count still_count. inr refl;
  }

  -- the words are not accepted, and the outcome that says so was written
  module _ (refused : accepted_request words ≡ None) (same : read ≡ source) (calm : IsCalm faults read_faults) where
    abbrev Told : List ℕ → Type 0
    Told bytes = (o : Outcome) × IsOutcome words bytes o × (let u : Status = Usage in u ≡ o.status) × Grows held grown o.text

    usage_of : (bytes : List ℕ) → IsOutcome words bytes usage_outcome
    usage_of bytes = subst (λ (asked : Option Request). IsOutcomeOf asked bytes usage_outcome) (sym refused) refl

    usage_told_of : Grows held grown usage_line → (from : Option (List ℕ)) → IfSome from Told
    usage_told_of grows None = tt
    usage_told_of grows (Some bytes) = (usage_outcome, usage_of bytes, refl, grows)

    usage_run : Grows held grown usage_line → IsCalm sink_faults write_faults → Run Usage
    usage_run grows still = record {
      usage = λ e. (inl refl, same);
      usage_alone = λ e. refused;
      usage_reported = λ e. grows;
      read_fault = λ small less. absurd (let stood = calm small in omega (arith, stood, less));
      read_fault_alone = λ e. absurd cc;
      read_fault_reported = λ e. absurd cc;
      write_fault = λ small. (λ e. absurd cc, λ less. absurd (let stood = still small in omega (arith, stood, less)));
      prefix = λ e. absurd cc;
      no_memory = λ e. absurd cc;
      no_memory_calm = λ e. absurd cc;
      no_memory_within = λ e. absurd cc;
      outcome = λ answered. usage_told_of grows left;
      end = λ request e reads done. absurd cc;
      untouched = λ request e nothing. same;
      words_alone = λ request e nothing answered. absurd cc;
      answered = λ small room same_count still_count. inl tt;
    }

    usage_due_of : (from : Option (List ℕ)) → IfSome from (λ bytes. IsOutcome words bytes usage_outcome)
    usage_due_of None = tt
    usage_due_of (Some bytes) = usage_of bytes

    -- the words are not accepted, and the outcome that says so was written, or cut off
    pub usage_delivered : (o : Outcome) → o ≡ usage_outcome → (status : Status) → IsDelivered o status held grown sink_faults write_faults → Run status
    usage_delivered o is status (inl whole) =
        subst Run (sym (whole.0 ∙ ap (λ (p : Outcome). p.status) is)) (usage_run (subst (λ (p : Outcome). Grows held grown p.text) is whole.1) whole.2)
    usage_delivered o is status (inr cut) =
        subst Run (sym cut.0) (cut_run (λ e. same) (λ request e nothing. same) usage_outcome
        (inr (calm, usage_due_of left, subst (λ (asked : Option Request). IsOutcomeAlone asked usage_outcome) (sym refused) refl))
        (subst (λ (p : Outcome). IsCutOff held grown p.text) is cut.1) cut.2)

  -- the words are accepted
  module _ (asked : Request) (accepted : accepted_request words ≡ Some asked) (idle : reads_input asked ≡ false → read ≡ source) where
    -- the source failed, and the outcome that says so was written
    fault_run : Rose faults read_faults → Grows held grown read_line → IsCalm sink_faults write_faults → Run ReadFault
    fault_run rose grows still = record {
      usage = λ e. absurd cc;
      usage_alone = λ e. absurd cc;
      usage_reported = λ e. absurd cc;
      read_fault = λ small less. inl refl;
      read_fault_alone = λ e. rose;
      read_fault_reported = λ e. grows;
      write_fault = λ small. (λ e. absurd cc, λ less. absurd (let stood = still small in omega (arith, stood, less)));
      prefix = λ e. absurd cc;
      no_memory = λ e. absurd cc;
      no_memory_calm = λ e. absurd cc;
      no_memory_within = λ e. absurd cc;
      outcome = λ answered. absurd answered;
      end = λ request e reads done. absurd cc;
      untouched = idle_of words source read asked accepted idle;
      words_alone = λ request e nothing answered. absurd answered;
      answered = λ small room same_count still_count. absurd (let risen = rose small in omega (arith, risen, same_count));
    }

    -- the outcome of the words and of what was read was written
    own_run : (o : Outcome) → IsReadWell asked left rest faults read_faults o → Grows held grown o.text → IsCalm sink_faults write_faults → Run o.status
    own_run o well grows still = record {
      usage = λ e. absurd cc;
      usage_alone = λ e. absurd (no_own o.status Usage well.own_status e);
      usage_reported = λ e. absurd (no_own o.status Usage well.own_status e);
      read_fault = λ small less. absurd (let stood = well.calm small in omega (arith, stood, less));
      read_fault_alone = λ e. absurd (no_own o.status ReadFault well.own_status e);
      read_fault_reported = λ e. absurd (no_own o.status ReadFault well.own_status e);
      write_fault = λ small. (λ e. absurd (no_own o.status WriteFault well.own_status e), λ less. absurd (let stood = still small in omega (arith, stood, less)));
      prefix = λ e. absurd (no_own o.status WriteFault well.own_status e);
      no_memory = λ e. absurd (no_own o.status NoMemory well.own_status e);
      no_memory_calm = λ e. absurd (no_own o.status NoMemory well.own_status e);
      no_memory_within = λ e. absurd (no_own o.status NoMemory well.own_status e);
      outcome = run_outcome words asked accepted rest faults read_faults o held grown sink_faults write_faults o.status left (inr well) (inl (refl, grows, still));
      end = λ request e reads done. well.end (ap reads_input (one_request words asked request accepted e) ∙ reads) done;
      untouched = idle_of words source read asked accepted idle;
      words_alone = λ request e nothing answered.
          (o, subst (λ (r : Request). IsAnswerTo r [] o) (one_request words asked request accepted e) (well.alone (ap reads_input (one_request words asked request accepted e) ∙ nothing)), refl, grows);
      answered = λ small room same_count still_count. inl (own_answered o.status well.own_status);
    }

    -- a response was written, or cut off
    pub response_delivered : (o : Outcome) → IsResponse asked left rest faults read_faults o → (status : Status) → IsDelivered o status held grown sink_faults write_faults → Run status
    response_delivered o (inl fault) status (inl whole) =
        subst Run (sym (whole.0 ∙ ap (λ (p : Outcome). p.status) fault.outcome)) (fault_run fault.rose (subst (λ (p : Outcome). Grows held grown p.text) fault.outcome whole.1) whole.2)
    response_delivered o (inr well) status (inl whole) = subst Run (sym whole.0) (own_run o well whole.1 whole.2)
    response_delivered o response status (inr cut) =
        let due = run_prefix words asked accepted rest faults read_faults o held grown sink_faults write_faults status left response (inr cut) cut.0 in
        subst Run (sym cut.0) (cut_run (λ e. absurd cc) (idle_of words source read asked accepted idle) due.0 due.1 due.2 cut.2)
