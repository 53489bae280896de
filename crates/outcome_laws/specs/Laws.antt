-- Answers by enumerations and by equations are unique.
use Rattle.std.specs.Prelude.{◌≡◌, ◌≢◌, ℕ, List}
use Rattle.table_definitions.specs.Table.{Row}
use Rattle.cone_definitions.specs.declared.Order.{Order}
use Rattle.cone_definitions.specs.declared.Order.TheVariants.{Free}
use Rattle.surface_definitions.specs.declared.Coords.{Coords}
use Rattle.outcome_definitions.specs.Outcomes.{Outcome}
use Rattle.outcome_definitions.specs.Enumerations.{IsSurfacesAnswer}
use Rattle.outcome_definitions.specs.Answers.{IsVerdictsAnswer}

-- two answers of `surfaces` to one table, in an order that has a name, are equal
abbrev pub ListsAgree : Type 0
ListsAgree = (coords : Coords) (order : Order) (most : ℕ) (rows : List Row) (o p : Outcome) → order ≢ Free →
    IsSurfacesAnswer coords order most rows o → IsSurfacesAnswer coords order most rows p → o ≡ p

-- two answers of `verify` to one table and vectors are equal
abbrev pub VerdictsAgree : Type 0
VerdictsAgree = (coords : Coords) (d : List Row × List (List ℕ)) (o p : Outcome) → IsVerdictsAnswer coords d o → IsVerdictsAnswer coords d p → o ≡ p
