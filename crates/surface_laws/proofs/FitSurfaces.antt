-- An accepted vector is an admissible solution, and in coordinates with triangles a surface.
use Rattle.std.proofs.Common.{◌≢◌, ℕ, List, length, refl, subst}
use Rattle.text_definitions.specs.Written.{limit}
use Rattle.cone_definitions.specs.Rows.{Row as EquationRow, IsSolution}
use Rattle.table_definitions.specs.Table.{Row, IsTable}
use Rattle.surface_definitions.specs.Coordinates.{columns, clash_list}
use Rattle.surface_definitions.specs.declared.Coords.{Coords}
use Rattle.surface_definitions.specs.declared.Coords.TheVariants.{Standard, Quad, Octagon}
use Rattle.surface_definitions.specs.Laws.{IsAcceptedVector}
use Rattle.surface_definitions.specs.QuadEquations.{AreEquations}
use Rattle.surface_definitions.proofs.VerdictLaws.{accepted_by}
use Rattle.surface_vector_definitions.specs.Answers.{IsFit}
use Rattle.surface_laws.specs.PieceLaws.{IsSurface}

pub fit_accepted : (coords : Coords) (rows : List Row) (equations : List EquationRow) (xs : List ℕ) → IsFit coords rows equations xs
    → IsAcceptedVector limit (columns coords (length rows)) equations (clash_list coords (length rows)) xs
fit_accepted coords rows equations xs e = accepted_by limit (columns coords (length rows)) equations (clash_list coords (length rows)) xs e

pub surface_is : (coords : Coords) (rows : List Row) (equations : List EquationRow) (xs : List ℕ) → coords ≢ Quad → IsTable rows → AreEquations coords rows equations
    → IsFit coords rows equations xs → IsSurface rows coords xs
surface_is Standard rows equations xs out table e fit = record {
  table = table;
  triangles = tt;
  solves = subst (λ (q : List EquationRow). IsSolution (columns Standard (length rows)) q xs) e (fit_accepted Standard rows equations xs fit).solves;
  admissible = (fit_accepted Standard rows equations xs fit).admissible;
}
surface_is Quad rows equations xs out table e fit = absurd (out refl)
surface_is Octagon rows equations xs out table e fit = record {
  table = table;
  triangles = tt;
  solves = subst (λ (q : List EquationRow). IsSolution (columns Octagon (length rows)) q xs) e (fit_accepted Octagon rows equations xs fit).solves;
  admissible = (fit_accepted Octagon rows equations xs fit).admissible;
}
