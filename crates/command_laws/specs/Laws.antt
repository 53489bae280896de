-- Accepted words are those of the grammar.
use Rattle.std.specs.Prelude.{◌≡◌, ◌↔◌, ℕ, ◌≤◌, ⊤, List, Some, None}
use Rattle.command_definitions.specs.declared.Request.{Request}
use Rattle.command_definitions.specs.declared.Request.TheVariants.{Make, Bulk}
use Rattle.command_definitions.specs.Grammar.{IsRequest}
use Rattle.command_definitions.specs.Requests.{HoldsRange}
use Rattle.command_definitions.specs.Values.{most_seed}
use Rattle.command_definitions.specs.Words.{accepted_request}

-- words are accepted for a request if and only if they spell it
abbrev pub RequestsAreAccepted : Type 0
RequestsAreAccepted = (words : List (List ℕ)) (r : Request) → (accepted_request words ≡ Some r) ↔ IsRequest words r

-- words are refused if and only if they spell no request
abbrev pub OthersAreRefused : Type 0
OthersAreRefused = (words : List (List ℕ)) → (accepted_request words ≡ None) ↔ ((r : Request) → IsRequest words r → ⊥)

-- words spell at most one request
abbrev pub WordsAskOnce : Type 0
WordsAskOnce = (words : List (List ℕ)) (r s : Request) → IsRequest words r → IsRequest words s → r ≡ s

-- a seed, where there is one, has 64 bits
abbrev pub HasShortSeed : Request → Type 0
HasShortSeed (Make seed moves) = seed ≤ most_seed
HasShortSeed (Bulk seed moves) = seed ≤ most_seed
HasShortSeed _ = ⊤

-- the requests that some words spell are those that hold what is in range
abbrev pub RequestsAreSpelled : Type 0
RequestsAreSpelled = (r : Request) → ((words : List (List ℕ)) × IsRequest words r) ↔ (HoldsRange r × HasShortSeed r)
