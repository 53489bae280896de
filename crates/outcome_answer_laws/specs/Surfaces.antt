-- The answer of `surfaces` if no number can exceed the limit.
use Rattle.std.specs.Prelude.{◌≡◌, ◌≤◌, ℕ, List, length, Ok, codes}
use Rattle.text_definitions.specs.Written.{limit}
use Rattle.cone_definitions.specs.Rows.{Row as EquationRow}
use Rattle.cone_definitions.specs.Surfaces.{IsSurfaceList}
use Rattle.cone_definitions.specs.declared.Order.{Order}
use Rattle.table_definitions.specs.Table.{Row}
use Rattle.surface_definitions.specs.Coordinates.{columns, clash_list}
use Rattle.surface_definitions.specs.declared.Coords.{Coords}
use Rattle.surface_definitions.specs.QuadEquations.{AreEquations}
use Rattle.text_document_definitions.specs.Documents.{table_document}
use Rattle.command_definitions.specs.declared.Request.TheVariants.{Surfaces}
use Rattle.outcome_definitions.specs.Outcomes.{Outcome}
use Rattle.outcome_definitions.specs.Enumerations.{list_outcome}
use Rattle.surface_equation_laws.specs.Bounds.{number_bound}
use Rattle.surface_equation_laws.specs.BoundedTables.{most_tetrahedra}
use Rattle.outcome_answer_laws.specs.Requests.{IsOutcomeTo}

-- the list of the vertex surfaces of a table
pub record IsTableList (coords : Coords) (rows : List Row) (o : Outcome) : Type 0 where
  pub equations : List EquationRow
  pub of_table : AreEquations coords rows equations
  pub list : List (List ℕ)
  pub surfaces : IsSurfaceList (columns coords (length rows)) equations (clash_list coords (length rows)) list
  pub outcome : o ≡ list_outcome (codes "surfaces") list

-- it is the outcome where the limit is at least the bound of the numbers
abbrev pub BoundedTablesAreListed : Type 0
BoundedTablesAreListed =
    (words : List (List ℕ)) (bytes : List ℕ) (o : Outcome) (coords : Coords) (order : Order) (most : ℕ) (rows : List Row) → IsOutcomeTo (Surfaces coords order most) words bytes o
    → table_document bytes ≡ Ok rows → number_bound coords (length rows) ≤ most → IsTableList coords rows o

-- Theorem: so it is at the default limit, up to the greatest number of tetrahedra of the coordinates
abbrev pub SmallTablesAreListed : Type 0
SmallTablesAreListed =
    (words : List (List ℕ)) (bytes : List ℕ) (o : Outcome) (coords : Coords) (order : Order) (rows : List Row) → IsOutcomeTo (Surfaces coords order limit) words bytes o
    → table_document bytes ≡ Ok rows → length rows ≤ most_tetrahedra coords → IsTableList coords rows o
