-- The entries of the matching equations, row by row and column by column.
use Rattle.std.specs.Prelude.{◌≡◌, ℕ, ◌≤◌, not, true, List, filter, Contains}
use Rattle.cone_definitions.specs.Rows.{Row as EquationRow}
use Rattle.table_definitions.specs.Table.{Row, IsTable}
use Rattle.surface_definitions.specs.Coordinates.{is_quad_or_octagon}
use Rattle.surface_definitions.specs.declared.Coords.{Coords}
use Rattle.surface_definitions.specs.Equations.{matching_rows}
use Rattle.surface_laws.specs.MatchingLaws.{HasTriangles}
use Rattle.surface_equation_laws.specs.Entries.{IsOnce, plus_over, minus_over, column_sum}
use Rattle.surface_equation_laws.specs.Weights.{side_length, weight}

-- the triangles among columns
abbrev pub triangles_of : Coords → List ℕ → List ℕ
triangles_of coords cs = filter (λ c. not (is_quad_or_octagon coords c)) cs

-- the positive entries in these columns add up to n at most, and so do the magnitudes of the negative ones
pub record AreAtMost (row : EquationRow) (cs : List ℕ) (n : ℕ) : Type 0 where
  pub plus : plus_over row cs ≤ n
  pub minus : minus_over row cs ≤ n

-- in each row the triangles have positive entries of sum at most 1, and negative ones
abbrev pub TrianglesAreAtMostOne : Type 0
TrianglesAreAtMostOne =
    (coords : Coords) (rows : List Row) (row : EquationRow) (cs : List ℕ) → HasTriangles coords → IsTable rows
    → Contains (matching_rows coords rows) row → IsOnce cs → AreAtMost row (triangles_of coords cs) 1

-- all columns have them of sum at most 2, and in octagon coordinates 4
abbrev pub RowsAreAtMostSides : Type 0
RowsAreAtMostSides =
    (coords : Coords) (rows : List Row) (row : EquationRow) (cs : List ℕ) → HasTriangles coords → IsTable rows
    → Contains (matching_rows coords rows) row → IsOnce cs → AreAtMost row cs (side_length coords)

-- over all rows the magnitudes in the column of a quad add up to 4 at most, and in that of an octagon to 8
abbrev pub ColumnsAreAtMostWeights : Type 0
ColumnsAreAtMostWeights =
    (coords : Coords) (rows : List Row) (c : ℕ) → HasTriangles coords → IsTable rows → is_quad_or_octagon coords c ≡ true
    → column_sum (matching_rows coords rows) c ≤ weight coords c
