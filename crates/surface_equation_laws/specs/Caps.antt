-- The certificate of a table: triangles are free, the quads of a tetrahedron are a group, and all octagons are one
-- more.
use Rattle.std.specs.Prelude.{ℕ, ◌+◌, ◌*◌, ◌/◌, ◌==◌, Bool, ◌&&◌, not, List, length, if◌then◌else◌}
use Rattle.cone_definitions.specs.Rows.{Row as EquationRow}
use Rattle.table_definitions.specs.Table.{Row, IsTable}
use Rattle.surface_definitions.specs.Coordinates.{has_triangles, has_octagons, columns_each, columns, is_quad_or_octagon, is_octagon, clash_list}
use Rattle.surface_definitions.specs.declared.Coords.{Coords}
use Rattle.surface_definitions.specs.QuadEquations.{AreEquations}
use Rattle.cone_bound_laws.specs.Caps.{HasCaps}

-- the triangles; in quad coordinates none
abbrev pub is_free : Coords → ℕ → Bool
is_free coords c = not (is_quad_or_octagon coords c)

-- the tetrahedron of a quad; n for the octagons of n tetrahedra
abbrev pub group_of : Coords → ℕ → ℕ → ℕ
group_of coords n c = if has_octagons coords && is_octagon coords c then n else c / columns_each coords

-- 4 for quads, 8 for octagons
abbrev pub cap_of : Coords → ℕ → ℕ → ℕ
cap_of coords n g = if has_octagons coords && (g == n) then 8 else 4

abbrev pub groups_of : Coords → ℕ → ℕ
groups_of coords n = if has_octagons coords then n + 1 else n

-- what the magnitudes of a row add up to at most
abbrev pub size_of : Coords → ℕ → ℕ
size_of coords n = if has_triangles coords then (if has_octagons coords then 8 else 4) else 12 * n

-- each table's equations have it
abbrev pub TablesHaveCaps : Type 0
TablesHaveCaps =
    (coords : Coords) (rows : List Row) (equations : List EquationRow) → IsTable rows → AreEquations coords rows equations
    → HasCaps (columns coords (length rows)) equations (clash_list coords (length rows)) (is_free coords) (group_of coords (length rows)) (cap_of coords (length rows))
    (groups_of coords (length rows)) (size_of coords (length rows))
