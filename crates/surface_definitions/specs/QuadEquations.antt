-- The equations of a table in any coordinates. In quad coordinates they are a row for each internal edge.
use Rattle.std.specs.Prelude.{◌≡◌, ℕ, ◌*◌, MatchBool, List, length, map}
use Rattle.std.specs.List.{AllZip}
use Rattle.table_definitions.specs.Table.{Row}
use Rattle.surface_definitions.specs.Coordinates.{has_triangles, columns, quad_column, keeping}
use Rattle.surface_definitions.specs.declared.Coords.{Coords}
use Rattle.surface_definitions.specs.declared.Coords.TheVariants.{Quad}
use Rattle.surface_definitions.specs.Equations.{Equation, row_of, matching_rows}
use Rattle.table_definitions.specs.Classes.{IsNumbering, least}
use Rattle.table_definitions.specs.Places.{SameEdge}
use Rattle.skeleton_definitions.specs.Corners.{Corner, first_corner, AreCorners, internal_edges}
use Rattle.cone_definitions.specs.Rows.{Row as EquationRow}

-- the sum over corners of the quad [ac] less the quad [ad]
abbrev pub quad_equation : List Corner → Equation
quad_equation corners = record {
  left = map (λ (k : Corner). quad_column Quad k.tet (keeping k.a k.c)) corners;
  right = map (λ (k : Corner). quad_column Quad k.tet (keeping k.a k.d)) corners;
}

-- the row of an edge class
abbrev pub IsQuadRow : List Row → List ℕ → ℕ → EquationRow → Type 0
IsQuadRow rows classes c row =
    (corners : List Corner) × AreCorners rows (first_corner (least classes c)) corners
    × (row ≡ row_of (columns Quad (length rows)) (quad_equation corners))

-- one row for each internal edge class, ascending, by the numbering of the edges
abbrev pub AreQuadRows : List Row → List ℕ → ℕ → List EquationRow → Type 0
AreQuadRows rows classes count quad_rows = AllZip (IsQuadRow rows classes) (internal_edges rows classes count) quad_rows

-- so by the numbering of the edges of a table, which is one
pub record AreQuadEquations (rows : List Row) (quad_rows : List EquationRow) : Type 0 where
  pub classes : List ℕ
  pub count : ℕ
  pub numbered : IsNumbering (6 * length rows) (SameEdge rows) classes count
  pub each : AreQuadRows rows classes count quad_rows

-- the equations of a table: matching equations, and in quad coordinates those of the internal edges
abbrev pub AreEquations : Coords → List Row → List EquationRow → Type 0
AreEquations coords rows equations =
    MatchBool (has_triangles coords) (equations ≡ matching_rows coords rows) (AreQuadEquations rows equations)
