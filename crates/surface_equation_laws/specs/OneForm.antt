-- The certificate of a table in one form for all coordinates.
use Rattle.std.specs.Prelude.{ℕ, ◌/◌, ◌%◌, ◌≤◌, ◌==◌, nat_lt, Bool, List, length, if◌then◌else◌}
use Rattle.cone_definitions.specs.Rows.{Row as EquationRow}
use Rattle.cone_definitions.specs.Listings.{Enumeration}
use Rattle.table_definitions.specs.Table.{Row, IsTable}
use Rattle.surface_definitions.specs.Coordinates.{columns, columns_each, triangles_each, is_octagon, clash_list}
use Rattle.surface_definitions.specs.declared.Coords.{Coords}
use Rattle.surface_definitions.specs.QuadEquations.{AreEquations}
use Rattle.cone_bound_laws.specs.Caps.{HasCaps}
use Rattle.cone_row_laws.specs.Listings.{IsBounded}
use Rattle.surface_equation_laws.specs.Caps.{groups_of, size_of}
use Rattle.surface_equation_laws.specs.Bounds.{IsOfTable, number_bound}

-- whether the column's place among those of its tetrahedron is before the quads
abbrev pub is_triangle : Coords → ℕ → Bool
is_triangle coords c = nat_lt (c % columns_each coords) (triangles_each coords)

-- the tetrahedron of a column; n for octagons
abbrev pub group_in : Coords → ℕ → ℕ → ℕ
group_in coords n c = if is_octagon coords c then n else c / columns_each coords

abbrev pub cap_in : ℕ → ℕ → ℕ
cap_in n g = if g == n then 8 else 4

abbrev pub TablesHaveOneForm : Type 0
TablesHaveOneForm =
    (coords : Coords) (rows : List Row) (equations : List EquationRow) → IsTable rows → AreEquations coords rows equations
    → HasCaps (columns coords (length rows)) equations (clash_list coords (length rows)) (is_triangle coords) (group_in coords (length rows)) (cap_in (length rows))
    (groups_of coords (length rows)) (size_of coords (length rows))

-- and what it asks of a limit
abbrev pub TablesAreBoundedInOneForm : Type 0
TablesAreBoundedInOneForm = (coords : Coords) (rows : List Row) (e : Enumeration) → IsOfTable coords rows e → number_bound coords (length rows) ≤ e.limit
    → IsBounded e (is_triangle coords) (group_in coords (length rows)) (cap_in (length rows)) (groups_of coords (length rows)) (size_of coords (length rows))
