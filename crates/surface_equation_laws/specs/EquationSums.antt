-- The entries of the equations of a table in any coordinates, row by row and column by column.
use Rattle.std.specs.Prelude.{◌≡◌, ℕ, ◌*◌, ◌≤◌, true, List, length, Contains, ℤ, sum_by, if◌then◌else◌}
use Rattle.cone_definitions.specs.Rows.{Row as EquationRow, positive_coefficient, negative_coefficient}
use Rattle.table_definitions.specs.Table.{Row, IsTable}
use Rattle.surface_definitions.specs.Coordinates.{has_triangles, is_quad_or_octagon}
use Rattle.surface_definitions.specs.declared.Coords.{Coords}
use Rattle.surface_definitions.specs.QuadEquations.{AreEquations}
use Rattle.surface_equation_laws.specs.Entries.{IsOnce, column_sum}
use Rattle.surface_equation_laws.specs.Weights.{side_length, weight}
use Rattle.surface_equation_laws.specs.MatchingSums.{AreAtMost, triangles_of}

-- what the entries of one sign in a row add up to at most, at n tetrahedra
abbrev pub row_bound : Coords → ℕ → ℕ
row_bound coords n = if has_triangles coords then side_length coords else 6 * n

abbrev pub EquationTrianglesAreAtMostOne : Type 0
EquationTrianglesAreAtMostOne =
    (coords : Coords) (rows : List Row) (equations : List EquationRow) (row : EquationRow) (cs : List ℕ) → IsTable rows → AreEquations coords rows equations
    → Contains equations row → IsOnce cs → AreAtMost row (triangles_of coords cs) 1

abbrev pub EquationRowsAreAtMostBounds : Type 0
EquationRowsAreAtMostBounds =
    (coords : Coords) (rows : List Row) (equations : List EquationRow) (row : EquationRow) (cs : List ℕ) → IsTable rows → AreEquations coords rows equations
    → Contains equations row → IsOnce cs → AreAtMost row cs (row_bound coords (length rows))

abbrev pub EquationColumnsAreAtMostWeights : Type 0
EquationColumnsAreAtMostWeights =
    (coords : Coords) (rows : List Row) (equations : List EquationRow) (c : ℕ) → IsTable rows → AreEquations coords rows equations
    → is_quad_or_octagon coords c ≡ true → column_sum equations c ≤ weight coords c

-- as the one before, for the terms as they are in the row
pub record HasTermsAtMost (row : EquationRow) (n : ℕ) : Type 0 where
  pub plus : sum_by (λ (term : ℕ × ℤ). positive_coefficient term.1) row ≤ n
  pub minus : sum_by (λ (term : ℕ × ℤ). negative_coefficient term.1) row ≤ n

abbrev pub EquationTermsAreAtMostBounds : Type 0
EquationTermsAreAtMostBounds =
    (coords : Coords) (rows : List Row) (equations : List EquationRow) (row : EquationRow) → IsTable rows → AreEquations coords rows equations
    → Contains equations row → HasTermsAtMost row (row_bound coords (length rows))
