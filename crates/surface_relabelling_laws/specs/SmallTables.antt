-- Isomorphic tables have equally many tetrahedra, so that a bound on the numbers of an enumeration holds for both or
-- for neither.
use Rattle.std.specs.Prelude.{◌≡◌, ℕ, ◌≤◌, List, length, Ok, codes}
use Rattle.text_definitions.specs.Written.{limit}
use Rattle.cone_definitions.specs.Rows.{Row as EquationRow}
use Rattle.cone_definitions.specs.Elimination.{Named}
use Rattle.cone_definitions.specs.Listings.{Enumeration, IsListed, ExceedsLimit}
use Rattle.cone_definitions.specs.declared.Order.{Order}
use Rattle.table_definitions.specs.Table.{Row, IsTable}
use Rattle.table_definitions.specs.Relabelling.{AreIsomorphic}
use Rattle.surface_definitions.specs.declared.Coords.{Coords}
use Rattle.surface_definitions.specs.QuadEquations.{AreEquations}
use Rattle.surface_definitions.specs.TableSurfaces.{table_enumeration}
use Rattle.surface_equation_laws.specs.Bounds.{number_bound}
use Rattle.surface_equation_laws.specs.BoundedTables.{most_tetrahedra}
use Rattle.text_document_definitions.specs.Documents.{table_document}
use Rattle.command_definitions.specs.declared.Request.TheVariants.{Surfaces}
use Rattle.outcome_definitions.specs.Outcomes.{Outcome}
use Rattle.outcome_definitions.specs.Enumerations.{list_outcome}
use Rattle.outcome_answer_laws.specs.Requests.{IsOutcomeTo}

-- Theorem: isomorphic tables have equally many tetrahedra
abbrev pub IsomorphicHaveOneSize : Type 0
IsomorphicHaveOneSize = (rows new : List Row) → AreIsomorphic rows new → length rows ≡ length new

-- both enumerations have a list, and the lists have the same length
pub record AreBothListed (one other : Enumeration) : Type 0 where
  pub taken : List ℕ
  pub list : List (List ℕ)
  pub is_listed : IsListed one taken list
  pub used : List ℕ
  pub others : List (List ℕ)
  pub other_is_listed : IsListed other used others
  pub as_long : length list ≡ length others

-- Theorem: if the limits of two enumerations of isomorphic tables are at least the bound on numbers of the one table,
-- both have a list, and the lists have the same length
abbrev pub BoundedAreBothListed : Type 0
BoundedAreBothListed =
    (coords : Coords) (rows new : List Row) (equations others : List EquationRow) (order another : Order) (most greatest : ℕ) → IsTable rows → AreIsomorphic rows new
    → AreEquations coords rows equations → AreEquations coords new others → number_bound coords (length rows) ≤ most → number_bound coords (length rows) ≤ greatest
    → AreBothListed (table_enumeration coords order most rows equations) (table_enumeration coords another greatest new others)

-- Theorem: then no number of either exceeds its limit
abbrev pub BoundedStayWithin : Type 0
BoundedStayWithin =
    (coords : Coords) (rows new : List Row) (others : List EquationRow) (another : Order) (greatest : ℕ) → IsTable rows → AreIsomorphic rows new → AreEquations coords new others
    → number_bound coords (length rows) ≤ greatest → (used : List ℕ) (kind : Named) → ¬ ExceedsLimit (table_enumeration coords another greatest new others) used kind

-- both outcomes are lists, of the same length
pub record PrintAsMany (o p : Outcome) : Type 0 where
  pub list : List (List ℕ)
  pub outcome : o ≡ list_outcome (codes "surfaces") list
  pub others : List (List ℕ)
  pub other_outcome : p ≡ list_outcome (codes "surfaces") others
  pub as_long : length list ≡ length others

-- Theorem: for isomorphic tables with at most as many tetrahedra as are bounded, `surfaces` with its default limit
-- prints lists of the same length, in whichever orders it takes the equations
abbrev pub SmallIsomorphicPrintAsMany : Type 0
SmallIsomorphicPrintAsMany =
    (words asked : List (List ℕ)) (bytes more : List ℕ) (o p : Outcome) (coords : Coords) (order another : Order) (rows new : List Row) → IsOutcomeTo (Surfaces coords order limit) words bytes o
    → table_document bytes ≡ Ok rows → IsOutcomeTo (Surfaces coords another limit) asked more p → table_document more ≡ Ok new → AreIsomorphic rows new
    → length rows ≤ most_tetrahedra coords → PrintAsMany o p
