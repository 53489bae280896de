-- A list printed by `surfaces` is read as the list of the vertex surfaces of the table.
use Rattle.std.proofs.Common.{◌≡◌, ℕ, List, length, sym, subst}
use Rattle.cone_definitions.specs.Rows.{Row as EquationRow}
use Rattle.cone_definitions.specs.Surfaces.{IsSurfaceList}
use Rattle.table_definitions.specs.Table.{Row}
use Rattle.skeleton_definitions.specs.Skeleton.{Skeleton}
use Rattle.surface_definitions.specs.Coordinates.{columns, clash_list}
use Rattle.surface_definitions.specs.declared.Coords.{Coords}
use Rattle.surface_definitions.specs.declared.Coords.TheVariants.{Standard, Quad, Octagon}
use Rattle.surface_definitions.specs.Equations.{matching_rows}
use Rattle.surface_definitions.specs.QuadEquations.{AreEquations}
use Rattle.surface_laws.specs.MatchingLaws.{HasTriangles}
use Rattle.surface_agreement_laws.specs.VertexSurfaces.{IsSurfaceListBy, IsSurfaceListOf}

-- the equations of a table with triangles are its matching equations
pub by_matching : (coords : Coords) (rows : List Row) (equations : List EquationRow) → HasTriangles coords → AreEquations coords rows equations → equations ≡ matching_rows coords rows
by_matching Standard rows equations h e = e
by_matching Quad rows equations h e = absurd h
by_matching Octagon rows equations h e = e

module _ (s : Skeleton) (coords : Coords) (rows : List Row) (of_rows : s.rows ≡ rows) (equations : List EquationRow) (list : List (List ℕ))
    (surfaces : IsSurfaceList (columns coords (length rows)) equations (clash_list coords (length rows)) list) where
  pub list_by : IsSurfaceListBy s coords equations list
  list_by = subst (λ (r : List Row). IsSurfaceList (columns coords (length r)) equations (clash_list coords (length r)) list) (sym of_rows) surfaces

  pub equations_of : AreEquations coords rows equations → AreEquations coords s.rows equations
  equations_of e = subst (λ (r : List Row). AreEquations coords r equations) (sym of_rows) e

  pub list_of : HasTriangles coords → AreEquations coords rows equations → IsSurfaceListOf s coords list
  list_of h e = subst (λ (es : List EquationRow). IsSurfaceListBy s coords es list) (by_matching coords s.rows equations h (equations_of e)) list_by
