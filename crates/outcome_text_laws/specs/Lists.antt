-- The text of a list of vectors determines the list, and that of an answer with a list its status.
use Rattle.std.specs.Prelude.{◌≡◌, ℕ, List}
use Rattle.text_definitions.specs.Written.{limit}
use Rattle.cone_definitions.specs.Listings.{Enumeration}
use Rattle.outcome_definitions.specs.Outcomes.{Outcome}
use Rattle.outcome_definitions.specs.Enumerations.{AreUpTo, listing, IsEnumerationAnswer}

-- Theorem: lists within the limit that are printed as the same text are equal
abbrev pub ListTextsDetermine : Type 0
ListTextsDetermine = (name : List ℕ) (list others : List (List ℕ)) → AreUpTo limit list → AreUpTo limit others → listing name list ≡ listing name others → list ≡ others

-- Theorem: answers of two enumerations with the same text, a list or a refusal, have the same status
abbrev pub EnumerationTextsDetermineStatus : Type 0
EnumerationTextsDetermineStatus = (name : List ℕ) (e f : Enumeration) (o p : Outcome) → IsEnumerationAnswer name e o → IsEnumerationAnswer name f p → o.text ≡ p.text → o ≡ p
