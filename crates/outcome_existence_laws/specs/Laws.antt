-- Each command line and input has exactly one correct outcome.
use Rattle.std.specs.Prelude.{◌≡◌, ℕ, List}
use Rattle.command_definitions.specs.declared.Request.{Request}
use Rattle.command_definitions.specs.Requests.{HoldsRange}
use Rattle.outcome_definitions.specs.Outcomes.{Outcome}
use Rattle.outcome_definitions.specs.Answers.{IsAnswerTo, IsOutcome}

-- two outcomes of the same words and the same input are equal
abbrev pub OutcomesAgree : Type 0
OutcomesAgree = (words : List (List ℕ)) (bytes : List ℕ) (o p : Outcome) → IsOutcome words bytes o → IsOutcome words bytes p → o ≡ p

-- there is an answer to each request, of any command, that holds what is in range, and all bytes
abbrev pub EachRequestIsAnswered : Type 0
EachRequestIsAnswered = (request : Request) (bytes : List ℕ) → HoldsRange request → (o : Outcome) × IsAnswerTo request bytes o

-- so there is an outcome of all words, accepted or not, and all bytes
abbrev pub EachIsAnswered : Type 0
EachIsAnswered = (words : List (List ℕ)) (bytes : List ℕ) → (o : Outcome) × IsOutcome words bytes o

-- and no other
abbrev pub EachIsAnsweredOnce : Type 0
EachIsAnsweredOnce =
    (words : List (List ℕ)) (bytes : List ℕ) → (o : Outcome) × IsOutcome words bytes o × ((other : Outcome) → IsOutcome words bytes other → other ≡ o)
