-- Up to a number of tetrahedra no number of an enumeration exceeds the greatest limit that can be requested.
use Rattle.std.specs.Prelude.{ℕ, ◌-◌, ◌^◌, ◌≤◌, ◌↔◌, List, length}
use Rattle.std.specs.List.{range_with_len}
use Rattle.std.specs.List.Sorted.{IsPermutation}
use Rattle.text_definitions.specs.Written.{limit}
use Rattle.cone_definitions.specs.Rows.{Row as EquationRow}
use Rattle.cone_definitions.specs.Surfaces.{IsSurfaceList}
use Rattle.cone_definitions.specs.Elimination.{Named}
use Rattle.cone_definitions.specs.Orders.{AreNamed}
use Rattle.cone_definitions.specs.Listings.{IsListed, ExceedsLimit}
use Rattle.cone_definitions.specs.declared.Order.{Order}
use Rattle.table_definitions.specs.Table.{Row, IsTable}
use Rattle.surface_definitions.specs.Coordinates.{columns, clash_list}
use Rattle.surface_definitions.specs.declared.Coords.{Coords}
use Rattle.surface_definitions.specs.declared.Coords.TheVariants.{Standard, Quad, Octagon}
use Rattle.surface_definitions.specs.QuadEquations.{AreEquations}
use Rattle.surface_definitions.specs.TableSurfaces.{table_enumeration}
use Rattle.surface_equation_laws.specs.Bounds.{IsOfTable, number_bound}

-- the most tetrahedra of which the bound is below 2 ^ 127
abbrev pub most_tetrahedra : Coords → ℕ
most_tetrahedra Standard = 31
most_tetrahedra Quad = 29
most_tetrahedra Octagon = 29

abbrev pub MostTetrahedra : Type 0
MostTetrahedra = (coords : Coords) (n : ℕ) → (number_bound coords n ≤ 2 ^ 127 - 1) ↔ (n ≤ most_tetrahedra coords)

-- a table's own enumeration is one of its equations
abbrev pub OwnEnumerations : Type 0
OwnEnumerations =
    (coords : Coords) (order : Order) (most : ℕ) (rows : List Row) (equations : List EquationRow) → IsTable rows → AreEquations coords rows equations
    → IsOfTable coords rows (table_enumeration coords order most rows equations)

-- Theorem: up to the greatest number of tetrahedra of the coordinates, the surface list is the answer, and no number
-- exceeds the limit
abbrev pub SmallTablesAreListed : Type 0
SmallTablesAreListed =
    (coords : Coords) (order : Order) (rows : List Row) (equations : List EquationRow) → IsTable rows → AreEquations coords rows equations → length rows ≤ most_tetrahedra coords
    → (taken : List ℕ) (list : List (List ℕ)) → IsPermutation (range_with_len 0 (length equations)) taken → AreNamed order (table_enumeration coords order limit rows equations).system taken
    → IsSurfaceList (columns coords (length rows)) equations (clash_list coords (length rows)) list → IsListed (table_enumeration coords order limit rows equations) taken list

abbrev pub SmallTablesStayWithin : Type 0
SmallTablesStayWithin =
    (coords : Coords) (order : Order) (rows : List Row) (equations : List EquationRow) → IsTable rows → AreEquations coords rows equations → length rows ≤ most_tetrahedra coords
    → (taken : List ℕ) (kind : Named) → ¬ ExceedsLimit (table_enumeration coords order limit rows equations) taken kind
