-- What accepted words ask for.
use Rattle.std.specs.Prelude.{◌≡◌, ℕ, List, Some}
use Rattle.command_definitions.specs.declared.Request.{Request}
use Rattle.command_definitions.specs.Requests.{HoldsRange}
use Rattle.command_definitions.specs.Words.{accepted_request}

-- what an accepted request holds is in range
abbrev pub AcceptedAreInRange : Type 0
AcceptedAreInRange = (words : List (List ℕ)) (r : Request) → accepted_request words ≡ Some r → HoldsRange r
