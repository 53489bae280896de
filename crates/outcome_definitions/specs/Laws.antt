-- What holds of every answer to a request.
use Rattle.std.specs.Prelude.{ℕ, List}
use Rattle.command_definitions.specs.declared.Request.{Request}
use Rattle.outcome_definitions.specs.Outcomes.{Outcome, IsOwnStatus}
use Rattle.outcome_definitions.specs.Answers.{IsAnswerTo}

-- its status is one of the outcomes of accepted words
abbrev pub StatusesAreOwn : Type 0
StatusesAreOwn = (request : Request) (bytes : List ℕ) (o : Outcome) → IsAnswerTo request bytes o → IsOwnStatus o.status
