-- A table followed by the answer of `surfaces` is a document of `verify`, `describe` and `decompose`.
use Rattle.std.specs.Prelude.{◌≡◌, ◌⊎◌, ℕ, List, ◌++◌, length, Ok, Err, All}
use Rattle.text_definitions.specs.Written.{limit}
use Rattle.cone_definitions.specs.Rows.{Row as EquationRow}
use Rattle.cone_definitions.specs.Surfaces.{IsVertexSurface, IsSurfaceList}
use Rattle.cone_definitions.specs.Elimination.{HasLargePart, HasPartsWithin}
use Rattle.cone_definitions.specs.declared.Order.{Order}
use Rattle.table_definitions.specs.Table.{Row}
use Rattle.table_definitions.specs.TableText.{table_text}
use Rattle.surface_definitions.specs.Coordinates.{columns, clash_list}
use Rattle.surface_definitions.specs.declared.Coords.{Coords}
use Rattle.surface_definitions.specs.declared.VectorFault.TheVariants.{Large}
use Rattle.surface_definitions.specs.QuadEquations.{AreEquations}
use Rattle.surface_definitions.specs.Verdict.{solution}
use Rattle.surface_vector_definitions.specs.Answers.{verdict_in}
use Rattle.text_document_definitions.specs.Documents.{table_document, vectors_document}
use Rattle.command_definitions.specs.declared.Request.TheVariants.{Surfaces, Verify}
use Rattle.outcome_definitions.specs.declared.Status.TheVariants.{Done}
use Rattle.outcome_definitions.specs.Outcomes.{Outcome}
use Rattle.outcome_definitions.specs.Sums.{IsFirst}
use Rattle.outcome_definitions.specs.Answers.{verify_outcome}
use Rattle.outcome_answer_laws.specs.Requests.{IsOutcomeTo}

-- all vertex surfaces of a table, by its equations
pub record AreVertexSurfaces (coords : Coords) (rows : List Row) (equations : List EquationRow) (list : List (List ℕ)) : Type 0 where
  pub of_table : AreEquations coords rows equations
  pub surfaces : IsSurfaceList (columns coords (length rows)) equations (clash_list coords (length rows)) list

-- the text of the table followed by this text is read as the table and all its vertex surfaces
pub record IsReadAsSurfaces (coords : Coords) (rows : List Row) (text : List ℕ) : Type 0 where
  pub equations : List EquationRow
  pub list : List (List ℕ)
  pub all : AreVertexSurfaces coords rows equations list
  pub read : vectors_document (table_text rows ++ text) ≡ Ok (rows, list)

-- so is each answer of `surfaces` that is a list
abbrev pub SurfacesAreRead : Type 0
SurfacesAreRead =
    (words : List (List ℕ)) (bytes : List ℕ) (o : Outcome) (coords : Coords) (order : Order) (most : ℕ) (rows : List Row) → IsOutcomeTo (Surfaces coords order most) words bytes o
    → table_document bytes ≡ Ok rows → o.status ≡ Done → IsReadAsSurfaces coords rows o.text

-- the first equation of which a part exceeds the limit at x
abbrev pub IsFirstLarge : List EquationRow → List ℕ → ℕ → Type 0
IsFirstLarge equations x row = IsFirst (λ equation. HasPartsWithin limit equation x) (λ equation. HasLargePart limit equation x) equations row

-- the verdict on x is that it is a solution where no part exceeds the limit, and else the first equation of which one
-- does
abbrev pub IsSolutionUnlessLarge : Coords → List Row → List EquationRow → List ℕ → Type 0
IsSolutionUnlessLarge coords rows equations x = (All (λ equation. HasPartsWithin limit equation x) equations × (verdict_in coords rows equations x ≡ solution))
    ⊎ ((row : ℕ) × IsFirstLarge equations x row × (verdict_in coords rows equations x ≡ Err (Large row)))

-- this is the verdict on a vertex surface
abbrev pub SurfacesAreSolutions : Type 0
SurfacesAreSolutions =
    (coords : Coords) (rows : List Row) (equations : List EquationRow) (x : List ℕ) → IsVertexSurface (columns coords (length rows)) equations (clash_list coords (length rows)) x
    → IsSolutionUnlessLarge coords rows equations x

-- the answer has such a verdict on each vertex surface of the table
pub record AreVerified (coords : Coords) (rows : List Row) (o : Outcome) : Type 0 where
  pub equations : List EquationRow
  pub list : List (List ℕ)
  pub all : AreVertexSurfaces coords rows equations list
  pub verdicts : All (IsSolutionUnlessLarge coords rows equations) list
  pub outcome : o ≡ verify_outcome coords rows equations list

-- so has the answer of `verify` to the answer of `surfaces` after the table
abbrev pub ListedAreVerified : Type 0
ListedAreVerified =
    (words asked : List (List ℕ)) (bytes : List ℕ) (o p : Outcome) (coords : Coords) (order : Order) (most : ℕ) (rows : List Row) → IsOutcomeTo (Surfaces coords order most) words bytes o
    → table_document bytes ≡ Ok rows → o.status ≡ Done → IsOutcomeTo (Verify coords) asked (table_text rows ++ o.text) p → AreVerified coords rows p
