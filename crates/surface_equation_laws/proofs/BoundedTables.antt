-- If a table has at most `most_tetrahedra` tetrahedra, the bound on numbers is within the limit.
use Rattle.std.proofs.Common.{ℕ, ◌≤◌, List, length, refl}
use Rattle.std.specs.List.{range_with_len}
use Rattle.std.specs.List.Sorted.{IsPermutation}
use Rattle.text_definitions.specs.Written.{limit}
use Rattle.cone_definitions.specs.Rows.{Row as EquationRow}
use Rattle.cone_definitions.specs.Surfaces.{IsSurfaceList}
use Rattle.cone_definitions.specs.Elimination.{Named}
use Rattle.cone_definitions.specs.Orders.{AreNamed}
use Rattle.cone_definitions.specs.Listings.{IsListed, ExceedsLimit}
use Rattle.cone_definitions.specs.declared.Order.{Order}
use Rattle.table_definitions.specs.Table.{Row, IsTable}
use Rattle.surface_definitions.specs.Coordinates.{columns, clash_list}
use Rattle.surface_definitions.specs.declared.Coords.{Coords}
use Rattle.surface_definitions.specs.QuadEquations.{AreEquations}
use Rattle.surface_definitions.specs.TableSurfaces.{table_enumeration}
use Rattle.surface_equation_laws.specs.Bounds.{IsOfTable, number_bound}
use Rattle.surface_equation_laws.specs.BoundedTables.{most_tetrahedra}
use Rattle.surface_equation_laws.proofs.Powers.{most}
use Rattle.surface_equation_laws.proofs.Bounds.{are_listed, not_past}

pub own : (coords : Coords) (order : Order) (most : ℕ) (rows : List Row) (equations : List EquationRow) → IsTable rows → AreEquations coords rows equations
    → IsOfTable coords rows (table_enumeration coords order most rows equations)
own coords order most rows equations table q = record { table = table; equations = q; columns = refl; pairs = refl }

room : (coords : Coords) (n : ℕ) → n ≤ most_tetrahedra coords → number_bound coords n ≤ limit
room coords n l = (most coords n).1 l

pub few_listed : (coords : Coords) (order : Order) (rows : List Row) (equations : List EquationRow) → IsTable rows → AreEquations coords rows equations → length rows ≤ most_tetrahedra coords
    → (taken : List ℕ) (list : List (List ℕ)) → IsPermutation (range_with_len 0 (length equations)) taken → AreNamed order (table_enumeration coords order limit rows equations).system taken
    → IsSurfaceList (columns coords (length rows)) equations (clash_list coords (length rows)) list → IsListed (table_enumeration coords order limit rows equations) taken list
few_listed coords order rows equations table q limited taken list perm named surfaces =
    are_listed coords rows (table_enumeration coords order limit rows equations) (own coords order limit rows equations table q) (room coords (length rows) limited) taken list perm named surfaces

pub few_not_past : (coords : Coords) (order : Order) (rows : List Row) (equations : List EquationRow) → IsTable rows → AreEquations coords rows equations → length rows ≤ most_tetrahedra coords
    → (taken : List ℕ) (kind : Named) → ¬ ExceedsLimit (table_enumeration coords order limit rows equations) taken kind
few_not_past coords order rows equations table q limited taken kind =
    not_past coords rows (table_enumeration coords order limit rows equations) (own coords order limit rows equations table q) (room coords (length rows) limited) taken kind
