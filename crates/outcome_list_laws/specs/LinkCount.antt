-- How many vertex links `describe` prints of what `surfaces` listed.
use Rattle.std.specs.Prelude.{◌≡◌, ℕ, List, ◌++◌, filter, length, Ok}
use Rattle.cone_definitions.specs.declared.Order.{Order}
use Rattle.table_definitions.specs.Table.{Row}
use Rattle.table_definitions.specs.TableText.{table_text}
use Rattle.skeleton_definitions.specs.Skeleton.{Skeleton, IsSkeleton}
use Rattle.surface_definitions.specs.declared.Coords.{Coords}
use Rattle.surface_vector_definitions.specs.Answers.{Description}
use Rattle.text_document_definitions.specs.Documents.{table_document}
use Rattle.command_definitions.specs.declared.Request.TheVariants.{Surfaces, Describe}
use Rattle.outcome_definitions.specs.declared.Status.TheVariants.{Done}
use Rattle.outcome_definitions.specs.Outcomes.{Outcome}
use Rattle.outcome_definitions.specs.Vectors.{describe_outcome}
use Rattle.surface_laws.specs.MatchingLaws.{HasTriangles}
use Rattle.outcome_answer_laws.specs.Requests.{IsOutcomeTo}
use Rattle.outcome_list_laws.specs.Runs.{IsListInput, AreListed}

-- of the surfaces that are described, `linking yes` is printed for as many as the table has vertex classes
pub record CountsLinks (coords : Coords) (rows : List Row) (o : Outcome) : Type 0 where
  pub skeleton : Skeleton
  pub of_rows : skeleton.rows ≡ rows
  pub is_skeleton : IsSkeleton skeleton
  pub reported : List Description
  pub outcome : o ≡ describe_outcome skeleton coords (Ok reported)
  pub links : length (filter (λ (d : Description). d.properties.linking) reported) ≡ skeleton.vertices.count

-- Theorem: in standard and octagon coordinates, if the input of `describe` is read as a table and what `surfaces`
-- listed for it, `describe` prints `linking yes` for as many surfaces as the table has vertex classes.
abbrev pub InputsCountLinks : Type 0
InputsCountLinks =
    (coords : Coords) (rows : List Row) (list asked : List (List ℕ)) (input : List ℕ) (p : Outcome) → HasTriangles coords → AreListed coords rows list
    → IsListInput rows input list → IsOutcomeTo (Describe coords) asked input p → p.status ≡ Done → CountsLinks coords rows p

-- Theorem: in standard and octagon coordinates, if `surfaces` is done, and `describe` with the table and what was
-- listed, `describe` prints `linking yes` for as many surfaces as the table has vertex classes.
abbrev pub DescribedLinksAreCounted : Type 0
DescribedLinksAreCounted =
    (words asked : List (List ℕ)) (bytes : List ℕ) (o p : Outcome) (coords : Coords) (order : Order) (most : ℕ) (rows : List Row) → HasTriangles coords
    → IsOutcomeTo (Surfaces coords order most) words bytes o → table_document bytes ≡ Ok rows → o.status ≡ Done
    → IsOutcomeTo (Describe coords) asked (table_text rows ++ o.text) p → p.status ≡ Done → CountsLinks coords rows p
