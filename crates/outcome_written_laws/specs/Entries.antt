-- The entries of what is listed.
use Rattle.std.specs.Prelude.{ℕ, ◌≤◌, List}
use Rattle.cone_definitions.specs.Listings.{Enumeration, IsListed}
use Rattle.outcome_definitions.specs.Enumerations.{AreUpTo}

-- no entry of a listed vector is above a number that is at least 1 and the limit of the enumeration
abbrev pub ListedAreWithin : Type 0
ListedAreWithin =
    (e : Enumeration) (taken : List ℕ) (list : List (List ℕ)) (most : ℕ) → IsListed e taken list → e.limit ≤ most → 1 ≤ most → AreUpTo most list
