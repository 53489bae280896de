-- What `describe` prints of what `surfaces` listed decides whether each sphere of a closed orientable table is a vertex
-- link: in standard coordinates 0-efficiency as Jaco and Rubinstein (2003) define it.
use Rattle.std.specs.Prelude.{◌≡◌, ◌↔◌, ℕ, true, List, ◌++◌, Ok}
use Rattle.std.specs.List.{All}
use Rattle.cone_definitions.specs.declared.Order.{Order}
use Rattle.table_definitions.specs.Places.{HasValidEdges, is_closed}
use Rattle.table_definitions.specs.Table.{Row}
use Rattle.table_definitions.specs.TableText.{table_text}
use Rattle.skeleton_definitions.specs.Orientation.{IsOrientable}
use Rattle.skeleton_definitions.specs.Skeleton.{Skeleton, IsSkeleton}
use Rattle.surface_definitions.specs.declared.Coords.{Coords}
use Rattle.surface_vector_definitions.specs.Answers.{Description}
use Rattle.text_document_definitions.specs.Documents.{table_document}
use Rattle.command_definitions.specs.declared.Request.TheVariants.{Surfaces, Describe}
use Rattle.outcome_definitions.specs.declared.Status.TheVariants.{Done}
use Rattle.outcome_definitions.specs.Outcomes.{Outcome}
use Rattle.outcome_definitions.specs.Vectors.{describe_outcome}
use Rattle.surface_laws.specs.MatchingLaws.{HasTriangles}
use Rattle.surface_double_laws.specs.Laws.{SpheresAreLinks}
use Rattle.outcome_answer_laws.specs.Requests.{IsOutcomeTo}
use Rattle.outcome_list_laws.specs.Runs.{IsListInput, AreListed}
use Rattle.outcome_list_laws.specs.Efficiency.{IsLinkingWherePositive}

-- each connected surface of Euler characteristic 2 is a vertex link if and only if each described surface of positive
-- Euler characteristic is printed as one
pub record DecidesSpheres (coords : Coords) (rows : List Row) (o : Outcome) : Type 0 where
  pub skeleton : Skeleton
  pub of_rows : skeleton.rows ≡ rows
  pub is_skeleton : IsSkeleton skeleton
  pub printed : List Description
  pub outcome : o ≡ describe_outcome skeleton coords (Ok printed)
  pub decides : SpheresAreLinks skeleton coords ↔ All IsLinkingWherePositive printed

-- Theorem: in standard and octagon coordinates, if a table is closed and orientable and has no invalid edge, each
-- answer of `describe` to an input that is read as the table and what `surfaces` listed for it decides whether each
-- connected surface of Euler characteristic 2 is a vertex link.
abbrev pub InputsDecideSpheres : Type 0
InputsDecideSpheres =
    (coords : Coords) (rows : List Row) (list asked : List (List ℕ)) (input : List ℕ) (p : Outcome) → HasValidEdges rows → is_closed rows ≡ true → IsOrientable rows → HasTriangles coords
    → AreListed coords rows list → IsListInput rows input list → IsOutcomeTo (Describe coords) asked input p → p.status ≡ Done → DecidesSpheres coords rows p

-- Theorem: in standard and octagon coordinates each answer of `describe` to a closed orientable table without invalid
-- edges, and what `surfaces` listed for it, decides whether each connected surface of Euler characteristic 2 is a
-- vertex link.
abbrev pub DescribedListsDecideSpheres : Type 0
DescribedListsDecideSpheres =
    (words asked : List (List ℕ)) (bytes : List ℕ) (o p : Outcome) (coords : Coords) (order : Order) (most : ℕ) (rows : List Row) → HasValidEdges rows → is_closed rows ≡ true → IsOrientable rows
    → HasTriangles coords → IsOutcomeTo (Surfaces coords order most) words bytes o → table_document bytes ≡ Ok rows → o.status ≡ Done
    → IsOutcomeTo (Describe coords) asked (table_text rows ++ o.text) p → p.status ≡ Done → DecidesSpheres coords rows p
