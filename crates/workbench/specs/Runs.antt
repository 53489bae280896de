-- The effect of a run on the source and the sink, and its status.
use Rattle.std.specs.Prelude.{◌≡◌, ◌↔◌, ℕ, ◌-◌, ◌^◌, ◌<◌, ◌≤◌, ◌+◌, true, false, List, [], length, take, Option, Some, None, ◌⊎◌, ⊤, IfSome}
use Rattle.text_io.specs.Causes.{Grows, Rose, IsEnded}
use Rattle.outcome_definitions.specs.declared.Status.{Status}
use Rattle.outcome_definitions.specs.declared.Status.TheVariants.{Done, Usage, Input, Refused, Large, ReadFault, WriteFault, NoMemory}
use Rattle.command_definitions.specs.declared.Request.{Request}
use Rattle.command_definitions.specs.Requests.{reads_input}
use Rattle.command_definitions.specs.Words.{accepted_request}
use Rattle.outcome_definitions.specs.Lines.{read_line, usage_line}
use Rattle.outcome_definitions.specs.Outcomes.{Outcome, IsOwnStatus, usage_outcome, read_outcome}
use Rattle.outcome_definitions.specs.Answers.{IsOutcome, IsAnswerTo, IsRequestOutcome, most_bytes}

-- the status, unless the sink failed or memory ran out
abbrev pub Answers : Status → Status → Type 0
Answers result status = (result ≡ status) ⊎ (result ≡ WriteFault) ⊎ (result ≡ NoMemory)

-- neither the source nor the sink failed, and memory did not run out
abbrev pub IsAnswered : Status → Type 0
IsAnswered ReadFault = ⊥
IsAnswered WriteFault = ⊥
IsAnswered NoMemory = ⊥
IsAnswered Done = ⊤
IsAnswered Usage = ⊤
IsAnswered Input = ⊤
IsAnswered Refused = ⊤
IsAnswered Large = ⊤

-- the count did not grow, unless it was 2^64 - 1 before
abbrev pub IsCalm : ℕ → ℕ → Type 0
IsCalm before now = before < 2 ^ 64 - 1 → now ≡ before

-- the source returned no more bytes than an input may have
abbrev pub IsWithinInputLimit : Option (List ℕ) → Option (List ℕ) → Type 0
IsWithinInputLimit before now = IfSome before (λ bytes. IfSome now (λ rest. length bytes ≤ length rest + most_bytes))

-- the source failed, and the outcome reports it
pub record IsReadFault (before now : ℕ) (o : Outcome) : Type 0 where
  pub rose : Rose before now
  pub outcome : o ≡ read_outcome

-- the source returned the input, if one was read, and the outcome is that of the request and the input
pub record IsReadWell (request : Request) (left rest : Option (List ℕ)) (before now : ℕ) (o : Outcome) : Type 0 where
  pub outcome : IfSome left (λ bytes. IsRequestOutcome request bytes o)
  pub alone : reads_input request ≡ false → IsAnswerTo request [] o
  pub own_status : IsOwnStatus o.status
  pub end : reads_input request ≡ true → o.status ≡ Done → IsEnded rest
  pub calm : IsCalm before now

-- the outcome of a request over a source
abbrev pub IsResponse : Request → Option (List ℕ) → Option (List ℕ) → ℕ → ℕ → Outcome → Type 0
IsResponse request left rest before now o = IsReadFault before now o ⊎ IsReadWell request left rest before now o

-- memory ran out before the source failed or returned too many bytes
pub record RunsOutOfMemory (left rest : Option (List ℕ)) (before now : ℕ) : Type 0 where
  pub calm : IsCalm before now
  pub within : IsWithinInputLimit left rest

-- a proper prefix of the text was appended
abbrev pub IsCutOff : Option (List ℕ) → Option (List ℕ) → List ℕ → Type 0
IsCutOff before now text = (n : ℕ) × (n < length text) × Grows before now (take n text)

-- the outcome of the words alone, if they are not accepted or are a command that reads no input
abbrev pub IsOutcomeAlone : Option Request → Outcome → Type 0
IsOutcomeAlone None o = o ≡ usage_outcome
IsOutcomeAlone (Some request) o = reads_input request ≡ false → IsAnswerTo request [] o

-- the text to be written: the line of a failed read if the source's count grew; otherwise the outcome of the words and
-- of the input, if the source's bytes are visible, or of the words alone
abbrev pub IsToBeWritten : List (List ℕ) → Option (List ℕ) → ℕ → ℕ → Outcome → Type 0
IsToBeWritten words left before now o = IsReadFault before now o
    ⊎ (IsCalm before now × IfSome left (λ bytes. IsOutcome words bytes o) × IsOutcomeAlone (accepted_request words) o)

-- an outcome was written whole, or cut off because the sink failed
abbrev pub IsDelivered : Outcome → Status → Option (List ℕ) → Option (List ℕ) → ℕ → ℕ → Type 0
IsDelivered o result before now faults_before faults_now = ((result ≡ o.status) × Grows before now o.text × IsCalm faults_before faults_now)
    ⊎ ((result ≡ WriteFault) × IsCutOff before now o.text × Rose faults_before faults_now)

-- What holds for each run of any command: of its words and its status, of the source before and after, with its bytes
-- left and its count of failures, and of the sink, with the bytes that it holds and its count.
pub record IsRun {X Y : Type 0} (words : List (List ℕ)) (result : Status) (source read : X) (left rest : Option (List ℕ)) (faults read_faults : ℕ)
    (sink written : Y) (held grown : Option (List ℕ)) (sink_faults write_faults : ℕ) : Type 0 where
  pub usage : accepted_request words ≡ None → Answers result Usage × (read ≡ source)
  pub usage_alone : result ≡ Usage → accepted_request words ≡ None
  pub usage_reported : result ≡ Usage → Grows held grown usage_line
  pub read_fault : faults < 2 ^ 64 - 1 → faults < read_faults → (result ≡ ReadFault) ⊎ (result ≡ WriteFault)
  pub read_fault_alone : result ≡ ReadFault → Rose faults read_faults
  pub read_fault_reported : result ≡ ReadFault → Grows held grown read_line
  pub write_fault : sink_faults < 2 ^ 64 - 1 → ((result ≡ WriteFault) ↔ (sink_faults < write_faults))
  pub prefix : result ≡ WriteFault → (o : Outcome) × IsToBeWritten words left faults read_faults o × IsCutOff held grown o.text
  pub no_memory : result ≡ NoMemory → written ≡ sink
  pub no_memory_calm : result ≡ NoMemory → IsCalm faults read_faults
  pub no_memory_within : result ≡ NoMemory → IsWithinInputLimit left rest
  pub outcome : IsAnswered result → IfSome left (λ bytes. (o : Outcome) × IsOutcome words bytes o × (result ≡ o.status) × Grows held grown o.text)
  pub end : (request : Request) → accepted_request words ≡ Some request → reads_input request ≡ true → result ≡ Done → IsEnded rest
  pub untouched : (request : Request) → accepted_request words ≡ Some request → reads_input request ≡ false → read ≡ source
  pub words_alone : (request : Request) → accepted_request words ≡ Some request → reads_input request ≡ false → IsAnswered result
      → (o : Outcome) × IsAnswerTo request [] o × (result ≡ o.status) × Grows held grown o.text
  pub answered : faults < 2 ^ 64 - 1 → sink_faults < 2 ^ 64 - 1 → read_faults ≡ faults → write_faults ≡ sink_faults → IsAnswered result ⊎ (result ≡ NoMemory)
