-- What `describe` prints of the lifts that `lift` printed for the quad list decides 0-efficiency.
use Rattle.std.specs.Prelude.{◌≡◌, ◌↔◌, ℕ, pos, ◌<ℤ◌, List, length, Ok}
use Rattle.std.specs.List.{All}
use Rattle.table_definitions.specs.Table.{Row}
use Rattle.skeleton_definitions.specs.Skeleton.{Skeleton, IsSkeleton}
use Rattle.surface_definitions.specs.declared.Coords.TheVariants.{Standard, Quad}
use Rattle.surface_vector_definitions.specs.Answers.{Description}
use Rattle.surface_quad_lift_laws.specs.Laws.{IsSphereOrDisc}
use Rattle.text_document_definitions.specs.Documents.{table_document}
use Rattle.command_definitions.specs.declared.Request.TheVariants.{Info, Describe}
use Rattle.surface_efficiency_laws.specs.Laws.{IsZeroEfficient}
use Rattle.outcome_definitions.specs.Outcomes.{Outcome}
use Rattle.outcome_definitions.specs.Canonical.{done}
use Rattle.outcome_definitions.specs.Information.{Information, information_text}
use Rattle.outcome_answer_laws.specs.Lifts.{HasSphereAndDiscVertices}
use Rattle.outcome_answer_laws.specs.Requests.{IsOutcomeTo}
use Rattle.outcome_list_laws.specs.Efficiency.{IsLinkingWherePositive}
use Rattle.outcome_list_laws.specs.Parts.{ArePrinted}
use Rattle.outcome_list_laws.specs.Runs.{AreListed, ListRun, IsDoneRun, vectors_of, HaveSameVectors, LiftRun, IsLiftRun, lifted_of, lifts_of}

-- the answer prints links of all vertex classes; if each is a sphere or a disc, so are all vertex links
pub record DecidesVertices (rows : List Row) (o : Outcome) : Type 0 where
  pub printed : Information
  pub outcome : o ≡ done (information_text printed)
  pub one_each : length printed.links ≡ printed.skeleton.vertices.count
  pub decides : All IsSphereOrDisc printed.links → HasSphereAndDiscVertices rows

-- Theorem: if `info` prints kind `sphere` or `disc` for each vertex class, all vertex links are spheres or discs.
abbrev pub InformationDecidesVertices : Type 0
InformationDecidesVertices =
    (words : List (List ℕ)) (input : List ℕ) (rows : List Row) (o : Outcome) → IsOutcomeTo Info words input o → table_document input ≡ Ok rows → DecidesVertices rows o

-- the Euler characteristic that is printed is not positive
abbrev pub IsNotPositive : Description → Type 0
IsNotPositive d = ¬ (pos 0 <ℤ d.properties.euler)

-- the runs of `describe` together decide whether the table is 0-efficient: if and only if `linking yes` is printed for
-- each positive Euler characteristic, and if and only if none that is printed is positive
pub record LiftsDecideEfficiency (rows : List Row) (runs : List ListRun) : Type 0 where
  pub skeleton : Skeleton
  pub of_rows : skeleton.rows ≡ rows
  pub is_skeleton : IsSkeleton skeleton
  pub printed : List Description
  pub are_printed : ArePrinted skeleton Standard runs printed
  pub linking : IsZeroEfficient skeleton ↔ All IsLinkingWherePositive printed
  pub none : IsZeroEfficient skeleton ↔ All IsNotPositive printed

-- Theorem: if all vertex links are spheres or discs, the vectors that `surfaces` listed in quad coordinates are passed
-- to `lift`, and the lifts that it prints to `describe`, both in parts and in any order, then what `describe` prints
-- decides whether the table is 0-efficient by its numbers.
abbrev pub DescribedLiftsDecide : Type 0
DescribedLiftsDecide =
    (rows : List Row) (quads : List (List ℕ)) (lifted : List LiftRun) (runs : List ListRun) → HasSphereAndDiscVertices rows → AreListed Quad rows quads
    → All (IsLiftRun rows) lifted → HaveSameVectors quads (lifted_of lifted)
    → All (IsDoneRun (Describe Standard) rows) runs → HaveSameVectors (lifts_of lifted) (vectors_of runs) → LiftsDecideEfficiency rows runs
