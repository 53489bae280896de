-- The entries of the quad equations, row by row and column by column.
use Rattle.std.specs.Prelude.{ℕ, ◌*◌, ◌≤◌, List, length, Contains}
use Rattle.cone_definitions.specs.Rows.{Row as EquationRow}
use Rattle.table_definitions.specs.Table.{Row, IsTable}
use Rattle.skeleton_definitions.specs.Corners.{Corner}
use Rattle.surface_definitions.specs.Equations.{row_of}
use Rattle.surface_definitions.specs.QuadEquations.{quad_equation, AreQuadEquations}
use Rattle.surface_equation_laws.specs.Entries.{IsOnce, column_sum}
use Rattle.surface_equation_laws.specs.MatchingSums.{AreAtMost}

-- over all rows the magnitudes in a column add up to 4 at most
abbrev pub QuadColumnsAreAtMostFour : Type 0
QuadColumnsAreAtMostFour = (rows : List Row) (quad_rows : List EquationRow) (c : ℕ) → IsTable rows → AreQuadEquations rows quad_rows → column_sum quad_rows c ≤ 4

-- in each row the positive entries add up to 6 for each tetrahedron at most, and so do the magnitudes of the negative
-- ones
abbrev pub QuadRowsAreAtMostEdges : Type 0
QuadRowsAreAtMostEdges =
    (rows : List Row) (quad_rows : List EquationRow) (row : EquationRow) (cs : List ℕ) → IsTable rows → AreQuadEquations rows quad_rows
    → Contains quad_rows row → IsOnce cs → AreAtMost row cs (6 * length rows)

-- and to the length of its walk at most
abbrev pub QuadRowsAreAtMostWalks : Type 0
QuadRowsAreAtMostWalks = (n : ℕ) (corners : List Corner) (cs : List ℕ) → IsOnce cs → AreAtMost (row_of n (quad_equation corners)) cs (length corners)
