-- Which vectors that `surfaces` lists in standard coordinates are lifts (Burton 2009).
use Rattle.std.specs.Prelude.{◌≡◌, ℕ, List}
use Rattle.std.specs.List.{All, Contains}
use Rattle.cone_definitions.specs.Rows.{Row as EquationRow}
use Rattle.table_definitions.specs.Table.{Row}
use Rattle.skeleton_definitions.specs.Skeleton.{Skeleton, IsSkeleton}
use Rattle.surface_definitions.specs.declared.Coords.TheVariants.{Standard, Quad}
use Rattle.surface_definitions.specs.QuadEquations.{AreEquations}
use Rattle.surface_quad_laws.specs.LinkLaws.{IsVertexLink}
use Rattle.surface_agreement_laws.specs.SurfaceKinds.{IsExactlyOne, IsListedLift, HasQuadsOfMore}
use Rattle.outcome_list_laws.specs.Runs.{AreListed, HaveSameVectors, LiftRun, IsLiftRun, lifted_of, lifts_of}

-- by the skeleton and the quad equations of the table, each vector of the list is a vertex link, or as the second case
-- says, or has quads on no extreme ray; exactly one of these
pub record AreOfOneKind (rows : List Row) (quads list : List (List ℕ)) (IsSecond : Skeleton → List ℕ → Type 0) : Type 0 where
  pub skeleton : Skeleton
  pub of_rows : skeleton.rows ≡ rows
  pub is_skeleton : IsSkeleton skeleton
  pub quad_rows : List EquationRow
  pub of_table : AreEquations Quad rows quad_rows
  pub kinds : All (λ ys. IsExactlyOne (IsVertexLink skeleton Standard ys) (IsSecond skeleton ys) (HasQuadsOfMore skeleton quad_rows quads ys)) list

-- Theorem: the second case is that the vector is the lift of one that `surfaces` listed in quad coordinates.
abbrev pub ListedInputsAreOfOneKind : Type 0
ListedInputsAreOfOneKind =
    (rows : List Row) (quads standard : List (List ℕ)) → AreListed Quad rows quads → AreListed Standard rows standard
    → AreOfOneKind rows quads standard (λ s ys. IsListedLift s quads ys)

-- Theorem: if `lift` prints the lifts of these, in parts and in any order, the second case is that it prints the
-- vector.
abbrev pub LiftedInputsAreOfOneKind : Type 0
LiftedInputsAreOfOneKind =
    (rows : List Row) (quads standard : List (List ℕ)) (lifted : List LiftRun) → AreListed Quad rows quads → AreListed Standard rows standard
    → All (IsLiftRun rows) lifted → HaveSameVectors quads (lifted_of lifted) → AreOfOneKind rows quads standard (λ s ys. Contains (lifts_of lifted) ys)
