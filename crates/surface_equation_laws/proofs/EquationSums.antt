-- The sums of matching equations and of quad equations in one statement.
use Rattle.std.proofs.Common.{◌≡◌, ℕ, ◌≤◌, Bool, true, false, not, cond, List, [], ◌∷◌, length, Contains, refl, sym, ap, ◌∙◌, subst, arith}
use Rattle.std.specs.Prelude.{if◌then◌else◌, ◌*◌, ◌%◌, nat_le, MatchBool, T}
use Rattle.std.proofs.Math.Dec.{leb-zero}
use Rattle.cone_definitions.specs.Rows.{Row as EquationRow}
use Rattle.table_definitions.specs.Table.{Row, IsTable}
use Rattle.surface_definitions.specs.Coordinates.{has_triangles, columns_each, is_quad_or_octagon, is_octagon}
use Rattle.surface_definitions.specs.declared.Coords.{Coords}
use Rattle.surface_definitions.specs.Equations.{matching_rows}
use Rattle.surface_definitions.specs.QuadEquations.{AreQuadEquations, AreEquations}
use Rattle.surface_equation_laws.specs.Entries.{IsOnce, column_sum}
use Rattle.surface_equation_laws.specs.Weights.{side_length, weight}
use Rattle.surface_equation_laws.specs.MatchingSums.{AreAtMost, triangles_of}
use Rattle.surface_equation_laws.specs.EquationSums.{row_bound}
use Rattle.surface_equation_laws.proofs.MatchingRows.{row_is_of, triangle_sums, side_sums}
use Rattle.surface_equation_laws.proofs.Columns.{columns_are_few}
use Rattle.surface_equation_laws.proofs.QuadColumns.{quad_columns_are_few}
use Rattle.surface_equation_laws.proofs.QuadRows.{quad_rows_are_few}

-- coordinates without triangles have no column of one
no_triangles : (coords : Coords) → has_triangles coords ≡ false → (cs : List ℕ) → triangles_of coords cs ≡ []
no_triangles coords none [] = refl
no_triangles coords none (c ∷ cs) =
    let further : is_quad_or_octagon coords c ≡ true = ap (λ t. nat_le (if t then 4 else 0) (c % columns_each coords)) none ∙ leb-zero (c % columns_each coords) in
    ap (λ b. cond (not b) (c ∷ triangles_of coords cs) (triangles_of coords cs)) further ∙ no_triangles coords none cs

nothing_is_most : (row : EquationRow) (ds : List ℕ) → ds ≡ [] → AreAtMost row ds 1
nothing_is_most row ds e = subst (λ (es : List ℕ). AreAtMost row es 1) (sym e) (record { plus = omega arith; minus = omega arith })

pub moved : {equations matching : List EquationRow} {row : EquationRow} → equations ≡ matching → Contains equations row → Contains matching row
moved {row = row} e h = subst (λ (rows : List EquationRow). Contains rows row) e h

pub equation_triangles : (coords : Coords) (rows : List Row) (equations : List EquationRow) (row : EquationRow) (cs : List ℕ) → IsTable rows → AreEquations coords rows equations
    → Contains equations row → IsOnce cs → AreAtMost row (triangles_of coords cs) 1
equation_triangles coords rows equations row cs table e h once = go (has_triangles coords) refl e
  where
    go : (t : Bool) → has_triangles coords ≡ t → MatchBool t (equations ≡ matching_rows coords rows) (AreQuadEquations rows equations) → AreAtMost row (triangles_of coords cs) 1
    go true t e = triangle_sums coords rows row cs (subst T (sym t) tt) once (row_is_of coords rows row table (moved e h))
    go false none e = nothing_is_most row (triangles_of coords cs) (no_triangles coords none cs)

pub equation_rows : (coords : Coords) (rows : List Row) (equations : List EquationRow) (row : EquationRow) (cs : List ℕ) → IsTable rows → AreEquations coords rows equations
    → Contains equations row → IsOnce cs → AreAtMost row cs (row_bound coords (length rows))
equation_rows coords rows equations row cs table e h once = go (has_triangles coords) refl e
  where
    go : (t : Bool) → has_triangles coords ≡ t → MatchBool t (equations ≡ matching_rows coords rows) (AreQuadEquations rows equations)
        → AreAtMost row cs (if t then side_length coords else 6 * length rows)
    go true t e = side_sums coords rows row cs (subst T (sym t) tt) once (row_is_of coords rows row table (moved e h))
    go false none e = quad_rows_are_few rows equations table e row cs h once

four_or_more : (octagon bounded : Bool) → bounded ≡ true → 4 ≤ (if octagon then 8 else (if bounded then 4 else 1))
four_or_more true bounded h = omega arith
four_or_more false true h = omega arith
four_or_more false false h = cc

pub equation_columns : (coords : Coords) (rows : List Row) (equations : List EquationRow) (c : ℕ) → IsTable rows → AreEquations coords rows equations
    → is_quad_or_octagon coords c ≡ true → column_sum equations c ≤ weight coords c
equation_columns coords rows equations c table e h = go (has_triangles coords) refl e
  where
    go : (t : Bool) → has_triangles coords ≡ t → MatchBool t (equations ≡ matching_rows coords rows) (AreQuadEquations rows equations) → column_sum equations c ≤ weight coords c
    go true t e = subst (λ (es : List EquationRow). column_sum es c ≤ weight coords c) (sym e) (columns_are_few coords rows c (subst T (sym t) tt) table h)
    go false none e =
        let a : column_sum equations c ≤ 4 = quad_columns_are_few rows equations c table e in
        let b : 4 ≤ weight coords c = four_or_more (is_octagon coords c) (is_quad_or_octagon coords c) h in
        omega arith
