-- The answer of `lift` if the link of each vertex class is a sphere or a disc (Tollefson 1998).
use Rattle.std.specs.Prelude.{◌≡◌, ◌*◌, ◌≤◌, ℕ, List, Result, Ok, Err, All, sum, ⊤}
use Rattle.std.specs.List.{AllZip}
use Rattle.text_definitions.specs.Written.{limit}
use Rattle.cone_definitions.specs.Rows.{Row as EquationRow}
use Rattle.table_definitions.specs.Table.{Row}
use Rattle.skeleton_definitions.specs.Skeleton.{Skeleton, IsSkeleton}
use Rattle.skeleton_definitions.specs.declared.Link.{Link}
use Rattle.surface_definitions.specs.declared.Coords.TheVariants.{Quad}
use Rattle.surface_definitions.specs.Lift.{IsLift}
use Rattle.surface_definitions.specs.QuadEquations.{AreEquations}
use Rattle.surface_vector_definitions.specs.Answers.{IsFit}
use Rattle.surface_vector_definitions.specs.declared.Refusal.{Refusal}
use Rattle.surface_vector_definitions.specs.declared.Refusal.TheVariants.{Unfit, LargeSum, TooManyPieces, LargeLift, NoLift}
use Rattle.surface_quad_lift_laws.specs.Laws.{HasSphereAndDiscLinks}
use Rattle.text_document_definitions.specs.Documents.{vectors_document}
use Rattle.command_definitions.specs.declared.Request.TheVariants.{Lift}
use Rattle.outcome_definitions.specs.Outcomes.{Outcome}
use Rattle.outcome_definitions.specs.Vectors.{lift_outcome, IsLiftsAnswer}
use Rattle.outcome_answer_laws.specs.Requests.{IsOutcomeTo}

-- the link of each vertex class of a table is a sphere or a disc
pub record HasSphereAndDiscVertices (rows : List Row) : Type 0 where
  pub skeleton : Skeleton
  pub of_rows : skeleton.rows ≡ rows
  pub is_skeleton : IsSkeleton skeleton
  pub links : List Link
  pub are : HasSphereAndDiscLinks skeleton links

-- a vector is refused for another reason than that a vertex class has no lift
abbrev pub IsAnotherReason : Refusal → Type 0
IsAnotherReason (Unfit fault) = ⊤
IsAnotherReason (LargeSum n) = ⊤
IsAnotherReason (TooManyPieces n) = ⊤
IsAnotherReason LargeLift = ⊤
IsAnotherReason (NoLift c) = ⊥

-- the answer is the lifts, or a vector is refused for another reason
abbrev pub AreLiftsOrAnotherReason : Result (List (List ℕ)) (ℕ × Refusal) → Type 0
AreLiftsOrAnotherReason (Ok lifts) = ⊤
AreLiftsOrAnotherReason (Err refusal) = IsAnotherReason refusal.1

-- and so it is with all vectors
abbrev pub NoneWithoutLift : Type 0
NoneWithoutLift =
    (words : List (List ℕ)) (bytes : List ℕ) (o : Outcome) (rows : List Row) (vectors : List (List ℕ)) → IsOutcomeTo Lift words bytes o
    → vectors_document bytes ≡ Ok (rows, vectors) → HasSphereAndDiscVertices rows → (answer : IsLiftsAnswer (rows, vectors) o) × AreLiftsOrAnotherReason answer.reported

-- an admissible solution of the quad equations, of which no sum exceeds the limit
pub record IsSmallSolution (rows : List Row) (equations : List EquationRow) (xs : List ℕ) : Type 0 where
  pub fit : IsFit Quad rows equations xs
  pub small : 4 * sum xs ≤ limit

-- the answer has the lift of each vector
pub record AreLifted (rows : List Row) (vectors : List (List ℕ)) (o : Outcome) : Type 0 where
  pub skeleton : Skeleton
  pub of_rows : skeleton.rows ≡ rows
  pub is_skeleton : IsSkeleton skeleton
  pub lifts : List (List ℕ)
  pub are : AllZip (λ xs ys. IsLift skeleton.rows skeleton.vertices.classes skeleton.vertices.count xs ys) vectors lifts
  pub outcome : o ≡ lift_outcome (Ok lifts)

abbrev pub SolutionsAreLifted : Type 0
SolutionsAreLifted =
    (words : List (List ℕ)) (bytes : List ℕ) (o : Outcome) (rows : List Row) (vectors : List (List ℕ)) (equations : List EquationRow) → IsOutcomeTo Lift words bytes o
    → vectors_document bytes ≡ Ok (rows, vectors) → HasSphereAndDiscVertices rows → AreEquations Quad rows equations → All (IsSmallSolution rows equations) vectors
    → AreLifted rows vectors o
