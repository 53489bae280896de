-- What `describe` prints of what `surfaces` listed for a closed orientable table decides whether each connected surface
-- of Euler characteristic 2 is a vertex link: in standard coordinates 0-efficiency as Jaco and Rubinstein (2003) define
-- it. No edge of an orientable table is invalid, so nothing is asked of edges.
use Rattle.std.specs.Prelude.{◌≡◌, ◌≢◌, ◌↔◌, ℕ, pos, true, List, [], ◌∷◌, ◌++◌, Ok}
use Rattle.std.specs.List.{All}
use Rattle.cone_definitions.specs.declared.Order.{Order}
use Rattle.table_definitions.specs.Places.{is_closed}
use Rattle.table_definitions.specs.Table.{Row}
use Rattle.table_definitions.specs.TableText.{table_text}
use Rattle.skeleton_definitions.specs.Orientation.{IsOrientable}
use Rattle.skeleton_definitions.specs.Skeleton.{Skeleton, IsSkeleton}
use Rattle.surface_definitions.specs.declared.Coords.{Coords}
use Rattle.surface_definitions.specs.declared.Coords.TheVariants.{Standard, Quad}
use Rattle.surface_vector_definitions.specs.Answers.{Description}
use Rattle.text_document_definitions.specs.Documents.{table_document}
use Rattle.command_definitions.specs.declared.Request.TheVariants.{Surfaces, Describe}
use Rattle.outcome_definitions.specs.declared.Status.TheVariants.{Done}
use Rattle.outcome_definitions.specs.Outcomes.{Outcome}
use Rattle.surface_laws.specs.MatchingLaws.{HasTriangles}
use Rattle.surface_agreement_laws.specs.VertexSurfaces.{IsSurfaceListOf}
use Rattle.surface_double_laws.specs.Laws.{SpheresAreLinks}
use Rattle.outcome_answer_laws.specs.Lifts.{HasSphereAndDiscVertices}
use Rattle.outcome_answer_laws.specs.Requests.{IsOutcomeTo}
use Rattle.outcome_list_laws.specs.Efficiency.{IsLinkingWherePositive}
use Rattle.outcome_list_laws.specs.Parts.{ArePrinted}
use Rattle.outcome_list_laws.specs.Quads.{IsNotPositive}
use Rattle.outcome_list_laws.specs.Runs.{IsListInput, AreListed, ListRun, IsDoneRun, IsFileRun, vectors_of, HaveSameVectors, LiftRun, IsLiftRun, lifted_of, lifts_of}
use Rattle.outcome_list_laws.specs.Spheres.{DecidesSpheres}

-- Theorem: in standard and octagon coordinates each answer of `describe` to an input that is read as a closed
-- orientable table and what `surfaces` listed for it decides whether each connected surface of Euler characteristic 2
-- is a vertex link.
abbrev pub OrientableInputsDecideSpheres : Type 0
OrientableInputsDecideSpheres =
    (coords : Coords) (rows : List Row) (list asked : List (List ℕ)) (input : List ℕ) (p : Outcome) → is_closed rows ≡ true → IsOrientable rows → HasTriangles coords
    → AreListed coords rows list → IsListInput rows input list → IsOutcomeTo (Describe coords) asked input p → p.status ≡ Done → DecidesSpheres coords rows p

-- Theorem: in standard and octagon coordinates each answer of `describe` to a closed orientable table, and what
-- `surfaces` listed for it, decides whether each connected surface of Euler characteristic 2 is a vertex link.
abbrev pub OrientableListsDecideSpheres : Type 0
OrientableListsDecideSpheres =
    (words asked : List (List ℕ)) (bytes : List ℕ) (o p : Outcome) (coords : Coords) (order : Order) (most : ℕ) (rows : List Row) → is_closed rows ≡ true → IsOrientable rows
    → HasTriangles coords → IsOutcomeTo (Surfaces coords order most) words bytes o → table_document bytes ≡ Ok rows → o.status ≡ Done
    → IsOutcomeTo (Describe coords) asked (table_text rows ++ o.text) p → p.status ≡ Done → DecidesSpheres coords rows p

-- the Euler characteristic that is printed is not 1, and `linking yes` is printed if it is 2
abbrev pub IsLinkingSphere : Description → Type 0
IsLinkingSphere d = (d.properties.euler ≢ pos 1) × (d.properties.euler ≡ pos 2 → d.properties.linking ≡ true)

-- the list is that of all vertex surfaces of the table; each connected surface of Euler characteristic 2 is a vertex
-- link if and only if `linking yes` is printed for each positive Euler characteristic, and if and only if no 1 is
-- printed, and `linking yes` for each 2
pub record PartsDecideLinkSpheres (coords : Coords) (rows : List Row) (list : List (List ℕ)) (runs : List ListRun) : Type 0 where
  pub skeleton : Skeleton
  pub of_rows : skeleton.rows ≡ rows
  pub is_skeleton : IsSkeleton skeleton
  pub printed : List Description
  pub are_printed : ArePrinted skeleton coords runs printed
  pub surfaces : IsSurfaceListOf skeleton coords list
  pub positive : SpheresAreLinks skeleton coords ↔ All IsLinkingWherePositive printed
  pub spheres : SpheresAreLinks skeleton coords ↔ All IsLinkingSphere printed

-- Theorem: if the inputs of some runs of `describe` that are done are read as a closed orientable table and, together,
-- as the vectors that `surfaces` listed for it, in any order, the runs decide whether each connected surface of Euler
-- characteristic 2 is a vertex link.
abbrev pub OrientablePartsDecideSpheres : Type 0
OrientablePartsDecideSpheres =
    (coords : Coords) (rows : List Row) (list : List (List ℕ)) (runs : List ListRun) → is_closed rows ≡ true → IsOrientable rows → HasTriangles coords → AreListed coords rows list
    → All (IsDoneRun (Describe coords) rows) runs → HaveSameVectors list (vectors_of runs) → PartsDecideLinkSpheres coords rows list runs

-- Theorem: if some runs of `describe` are on a file that is read as a closed orientable table, each with the lines of
-- some vectors joined to its end, and these are together the vectors that `surfaces` listed for the table, in any
-- order, the runs decide whether each connected surface of Euler characteristic 2 is a vertex link.
abbrev pub OrientableFilePartsDecideSpheres : Type 0
OrientableFilePartsDecideSpheres =
    (coords : Coords) (front : List ℕ) (rows : List Row) (list : List (List ℕ)) (runs : List ListRun) → is_closed rows ≡ true → IsOrientable rows → HasTriangles coords
    → table_document (front ++ 10 ∷ []) ≡ Ok rows → AreListed coords rows list
    → All (IsFileRun (Describe coords) front) runs → HaveSameVectors list (vectors_of runs) → PartsDecideLinkSpheres coords rows list runs

-- each connected surface of Euler characteristic 2 is a vertex link if and only if no Euler characteristic that is
-- printed is positive
pub record LiftsDecideSpheres (rows : List Row) (runs : List ListRun) : Type 0 where
  pub skeleton : Skeleton
  pub of_rows : skeleton.rows ≡ rows
  pub is_skeleton : IsSkeleton skeleton
  pub printed : List Description
  pub are_printed : ArePrinted skeleton Standard runs printed
  pub linking : SpheresAreLinks skeleton Standard ↔ All IsLinkingWherePositive printed
  pub none : SpheresAreLinks skeleton Standard ↔ All IsNotPositive printed

-- Theorem: if a table is closed and orientable, all its vertex links are spheres or discs, the vectors that `surfaces`
-- listed for it in quad coordinates are passed to `lift`, and the lifts that it prints to `describe`, both in parts and
-- in any order, then what `describe` prints decides whether each connected surface of Euler characteristic 2, in
-- standard coordinates, is a vertex link.
abbrev pub OrientableLiftsDecideSpheres : Type 0
OrientableLiftsDecideSpheres =
    (rows : List Row) (quads : List (List ℕ)) (lifted : List LiftRun) (runs : List ListRun) → is_closed rows ≡ true → IsOrientable rows → HasSphereAndDiscVertices rows → AreListed Quad rows quads
    → All (IsLiftRun rows) lifted → HaveSameVectors quads (lifted_of lifted)
    → All (IsDoneRun (Describe Standard) rows) runs → HaveSameVectors (lifts_of lifted) (vectors_of runs) → LiftsDecideSpheres rows runs
