-- The equations of a table in coordinates that count every normal disc are its matching rows.
use Rattle.std.proofs.Common.{◌≡◌, ◌≢◌, ℕ, List, refl, subst, arith}
use Rattle.cone_definitions.specs.Rows.{Row as EquationRow}
use Rattle.table_definitions.specs.Table.{Row, IsTable}
use Rattle.surface_definitions.specs.Equations.{matching_rows}
use Rattle.surface_definitions.specs.Coordinates.{triangles_each}
use Rattle.surface_definitions.specs.QuadEquations.{AreEquations}
use Rattle.surface_definitions.specs.declared.Coords.{Coords}
use Rattle.surface_definitions.specs.declared.Coords.TheVariants.{Standard, Quad, Octagon}
use Rattle.surface_vector_definitions.specs.Answers.{IsFit}
use Rattle.surface_laws.proofs.FitSurfaces.{surface_is}
use Rattle.surface_laws.specs.PieceLaws.{IsSurface}

not_quad : (coords : Coords) → triangles_each coords ≡ 4 → coords ≢ Quad
not_quad coords four same = let none : 0 ≡ 4 = subst (λ (c : Coords). triangles_each c ≡ 4) same four in absurd (omega (arith, none))

pub rows_of : (coords : Coords) (rows : List Row) (equations : List EquationRow) → triangles_each coords ≡ 4 → AreEquations coords rows equations → equations ≡ matching_rows coords rows
rows_of Standard rows equations four e = e
rows_of Quad rows equations four e = absurd (not_quad Quad four refl)
rows_of Octagon rows equations four e = e

pub equations_of : (coords : Coords) (rows : List Row) (equations : List EquationRow) → triangles_each coords ≡ 4 → equations ≡ matching_rows coords rows → AreEquations coords rows equations
equations_of Standard rows equations four e = e
equations_of Quad rows equations four e = absurd (not_quad Quad four refl)
equations_of Octagon rows equations four e = e

-- an admissible solution of the matching rows is a surface
pub surface_of : (coords : Coords) (rows : List Row) (equations : List EquationRow) (xs : List ℕ) → triangles_each coords ≡ 4 → IsTable rows → equations ≡ matching_rows coords rows
    → IsFit coords rows equations xs → IsSurface rows coords xs
surface_of coords rows equations xs four table e fit = surface_is coords rows equations xs (not_quad coords four) table (equations_of coords rows equations four e) fit
