-- What `describe` prints of the components of a surface that does not meet the boundary: where one is orientable, its
-- Euler characteristic is even. In a closed orientable table it is even where a component is two-sided.
use Rattle.std.specs.Prelude.{◌≡◌, ℕ, true, false, List, Ok}
use Rattle.std.specs.List.{All}
use Rattle.table_definitions.specs.Places.{is_closed}
use Rattle.table_definitions.specs.Table.{Row}
use Rattle.skeleton_definitions.specs.Orientation.{IsOrientable}
use Rattle.skeleton_definitions.specs.Skeleton.{Skeleton, IsSkeleton}
use Rattle.surface_definitions.specs.declared.Coords.{Coords}
use Rattle.surface_vector_definitions.specs.Answers.{Description}
use Rattle.surface_vector_definitions.specs.Components.{Component}
use Rattle.surface_vector_definitions.specs.Properties.{characteristic}
use Rattle.text_document_definitions.specs.Documents.{vectors_document}
use Rattle.command_definitions.specs.declared.Request.TheVariants.{Describe}
use Rattle.outcome_definitions.specs.declared.Status.TheVariants.{Done}
use Rattle.outcome_definitions.specs.Outcomes.{Outcome}
use Rattle.outcome_definitions.specs.Vectors.{describe_outcome}
use Rattle.surface_laws.specs.MatchingLaws.{HasTriangles}
use Rattle.surface_double_laws.specs.Laws.{IsEven}
use Rattle.outcome_answer_laws.specs.Requests.{IsOutcomeTo}

-- where `boundary no` is printed for a vector, the Euler characteristic in the line of each component with
-- `orientable yes` is even, and so is that of the vector if all its components have it
abbrev pub IsEvenWhereOrientable : Skeleton → Coords → Description → Type 0
IsEvenWhereOrientable s coords d =
    d.properties.boundary ≡ false
    → All (λ (c : Component). c.orientable ≡ true → IsEven (characteristic s coords c.vector)) d.components
    × (All (λ (c : Component). c.orientable ≡ true) d.components → IsEven d.properties.euler)

-- the outcome of `describe` is done, and this holds of each vector that is described
pub record PrintsEach (IsPrinted : Skeleton → Coords → Description → Type 0) (coords : Coords) (rows : List Row) (o : Outcome) : Type 0 where
  pub skeleton : Skeleton
  pub of_rows : skeleton.rows ≡ rows
  pub is_skeleton : IsSkeleton skeleton
  pub printed : List Description
  pub outcome : o ≡ describe_outcome skeleton coords (Ok printed)
  pub each : All (IsPrinted skeleton coords) printed

-- each vector that is described has such even Euler characteristics
abbrev pub PrintsEven : Coords → List Row → Outcome → Type 0
PrintsEven coords rows o = PrintsEach IsEvenWhereOrientable coords rows o

-- Theorem: in standard and octagon coordinates, where an outcome of `describe` that is done prints `boundary no` for a
-- vector, the Euler characteristic is even in the line of each component with `orientable yes`. It is even in that of
-- the vector, too, if all its components have `orientable yes`.
abbrev pub OrientablePrintedAreEven : Type 0
OrientablePrintedAreEven =
    (words : List (List ℕ)) (bytes : List ℕ) (o : Outcome) (coords : Coords) (rows : List Row) (vectors : List (List ℕ)) → HasTriangles coords
    → IsOutcomeTo (Describe coords) words bytes o → vectors_document bytes ≡ Ok (rows, vectors) → o.status ≡ Done → PrintsEven coords rows o

-- the Euler characteristic in the line of each component with `sides two` is even, and so is that of the vector if all
-- its components have it
abbrev pub IsEvenWhereTwoSided : Skeleton → Coords → Description → Type 0
IsEvenWhereTwoSided s coords d =
    All (λ (c : Component). c.two_sided ≡ true → IsEven (characteristic s coords c.vector)) d.components
    × (All (λ (c : Component). c.two_sided ≡ true) d.components → IsEven d.properties.euler)

-- Theorem: in standard and octagon coordinates, where an outcome of `describe` for a closed orientable table is done,
-- the Euler characteristic is even in the line of each component with `sides two`. It is even in that of the vector,
-- too, if all its components have `sides two`.
abbrev pub TwoSidedPrintedAreEven : Type 0
TwoSidedPrintedAreEven =
    (words : List (List ℕ)) (bytes : List ℕ) (o : Outcome) (coords : Coords) (rows : List Row) (vectors : List (List ℕ)) → HasTriangles coords → is_closed rows ≡ true → IsOrientable rows
    → IsOutcomeTo (Describe coords) words bytes o → vectors_document bytes ≡ Ok (rows, vectors) → o.status ≡ Done → PrintsEach IsEvenWhereTwoSided coords rows o
