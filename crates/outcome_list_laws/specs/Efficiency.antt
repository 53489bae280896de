-- What `describe` prints of what `surfaces` listed decides whether each connected surface of positive Euler
-- characteristic is a vertex link. In standard coordinates that is 0-efficiency by the table's numbers (Jaco and
-- Rubinstein 2003). If the table is 0-efficient, the octagon list decides whether it has an octagonal almost normal
-- sphere by its numbers (Rubinstein 1995; Thompson 1994).
use Rattle.std.specs.Prelude.{◌≡◌, ◌↔◌, ℕ, pos, ◌<ℤ◌, true, List, [], ◌∷◌, ◌++◌, map, Ok}
use Rattle.std.specs.List.{All, Contains}
use Rattle.cone_definitions.specs.declared.Order.{Order}
use Rattle.table_definitions.specs.Table.{Row}
use Rattle.table_definitions.specs.TableText.{table_text}
use Rattle.skeleton_definitions.specs.Skeleton.{Skeleton, IsSkeleton}
use Rattle.surface_definitions.specs.declared.Coords.{Coords}
use Rattle.surface_definitions.specs.declared.Coords.TheVariants.{Octagon}
use Rattle.surface_vector_definitions.specs.Answers.{Description}
use Rattle.text_document_definitions.specs.Documents.{table_document}
use Rattle.command_definitions.specs.declared.Request.TheVariants.{Surfaces, Describe}
use Rattle.outcome_definitions.specs.declared.Status.TheVariants.{Done}
use Rattle.outcome_definitions.specs.Outcomes.{Outcome}
use Rattle.outcome_definitions.specs.Vectors.{describe_outcome}
use Rattle.surface_laws.specs.MatchingLaws.{HasTriangles}
use Rattle.surface_agreement_laws.specs.VertexSurfaces.{IsSurfaceListOf}
use Rattle.surface_efficiency_laws.specs.Laws.{PositiveAreLinks, IsZeroEfficient}
use Rattle.surface_efficiency_laws.specs.Octagons.{octagons}
use Rattle.surface_euler_laws.specs.Laws.{IsOctagonalAlmostNormalSphere}
use Rattle.outcome_answer_laws.specs.Requests.{IsOutcomeTo}
use Rattle.outcome_list_laws.specs.Runs.{IsListInput, AreListed}

-- if the Euler characteristic that is printed is positive, `linking yes` is printed
abbrev pub IsLinkingWherePositive : Description → Type 0
IsLinkingWherePositive d = pos 0 <ℤ d.properties.euler → d.properties.linking ≡ true

-- all vertex surfaces of the table are described, and each connected surface of positive Euler characteristic is a
-- vertex link if and only if each described one is printed as one
pub record DecidesLinks (coords : Coords) (rows : List Row) (o : Outcome) : Type 0 where
  pub skeleton : Skeleton
  pub of_rows : skeleton.rows ≡ rows
  pub is_skeleton : IsSkeleton skeleton
  pub reported : List Description
  pub outcome : o ≡ describe_outcome skeleton coords (Ok reported)
  pub surfaces : IsSurfaceListOf skeleton coords (map (λ (d : Description). d.vector) reported)
  pub decides : PositiveAreLinks skeleton coords ↔ All IsLinkingWherePositive reported

-- Theorem: each answer of `describe` to an input that is read as the table and what `surfaces` listed for it decides
-- whether each connected surface of positive Euler characteristic is a vertex link.
abbrev pub DescribedInputsDecide : Type 0
DescribedInputsDecide =
    (coords : Coords) (rows : List Row) (list asked : List (List ℕ)) (input : List ℕ) (p : Outcome) → HasTriangles coords → AreListed coords rows list
    → IsListInput rows input list → IsOutcomeTo (Describe coords) asked input p → p.status ≡ Done → DecidesLinks coords rows p

-- Theorem: in standard and octagon coordinates each answer of `describe` to the table and what `surfaces` listed for it
-- decides whether each connected surface of positive Euler characteristic is a vertex link. In octagon coordinates a
-- sphere with octagons counts too, which a 0-efficient table may have.
abbrev pub DescribedListsDecide : Type 0
DescribedListsDecide =
    (words asked : List (List ℕ)) (bytes : List ℕ) (o p : Outcome) (coords : Coords) (order : Order) (most : ℕ) (rows : List Row) → HasTriangles coords
    → IsOutcomeTo (Surfaces coords order most) words bytes o → table_document bytes ≡ Ok rows → o.status ≡ Done
    → IsOutcomeTo (Describe coords) asked (table_text rows ++ o.text) p → p.status ≡ Done → DecidesLinks coords rows p

-- Theorem: the answer of `describe` to a file that is read as the table, whose last byte is a line feed, with the whole
-- answer of `surfaces` joined to its end decides whether each connected surface of positive Euler characteristic is a
-- vertex link.
abbrev pub DescribedFilesDecide : Type 0
DescribedFilesDecide =
    (coords : Coords) (front : List ℕ) (rows : List Row) (list asked : List (List ℕ)) (p : Outcome) (listed : AreListed coords rows list) → HasTriangles coords
    → table_document (front ++ 10 ∷ []) ≡ Ok rows → IsOutcomeTo (Describe coords) asked (front ++ 10 ∷ listed.outcome.text) p → p.status ≡ Done → DecidesLinks coords rows p

-- for a vector with one octagon Euler characteristic 2 is printed
abbrev pub IsPrintedAlmostNormal : Skeleton → Description → Type 0
IsPrintedAlmostNormal s d = (octagons s d.vector ≡ 1) × (d.properties.euler ≡ pos 2)

-- all octagon vertex surfaces of the table are described, and if it is 0-efficient there is an octagonal almost normal
-- sphere if and only if one is printed
pub record DecidesAlmostNormal (rows : List Row) (o : Outcome) : Type 0 where
  pub skeleton : Skeleton
  pub of_rows : skeleton.rows ≡ rows
  pub is_skeleton : IsSkeleton skeleton
  pub reported : List Description
  pub outcome : o ≡ describe_outcome skeleton Octagon (Ok reported)
  pub surfaces : IsSurfaceListOf skeleton Octagon (map (λ (d : Description). d.vector) reported)
  pub decides : IsZeroEfficient skeleton → ((xs : List ℕ) × IsOctagonalAlmostNormalSphere skeleton xs) ↔ ((d : Description) × Contains reported d × IsPrintedAlmostNormal skeleton d)

-- Theorem: each answer of `describe` to an input that is read as the table and what `surfaces` listed for it in octagon
-- coordinates decides whether a 0-efficient table has an octagonal almost normal sphere by its numbers.
abbrev pub OctagonInputsDecide : Type 0
OctagonInputsDecide =
    (rows : List Row) (list asked : List (List ℕ)) (input : List ℕ) (p : Outcome) → AreListed Octagon rows list
    → IsListInput rows input list → IsOutcomeTo (Describe Octagon) asked input p → p.status ≡ Done → DecidesAlmostNormal rows p

-- Theorem: each answer of `describe` to the table and what `surfaces` listed for it in octagon coordinates decides
-- whether a 0-efficient table has an octagonal almost normal sphere by its numbers.
abbrev pub DescribedOctagonsDecide : Type 0
DescribedOctagonsDecide =
    (words asked : List (List ℕ)) (bytes : List ℕ) (o p : Outcome) (order : Order) (most : ℕ) (rows : List Row)
    → IsOutcomeTo (Surfaces Octagon order most) words bytes o → table_document bytes ≡ Ok rows → o.status ≡ Done
    → IsOutcomeTo (Describe Octagon) asked (table_text rows ++ o.text) p → p.status ≡ Done → DecidesAlmostNormal rows p

-- Theorem: the answer of `describe` to a file that is read as the table, whose last byte is a line feed, with the whole
-- answer of `surfaces` in octagon coordinates joined to its end decides whether a 0-efficient table has an octagonal
-- almost normal sphere by its numbers.
abbrev pub OctagonFilesDecide : Type 0
OctagonFilesDecide =
    (front : List ℕ) (rows : List Row) (list asked : List (List ℕ)) (p : Outcome) (listed : AreListed Octagon rows list) → table_document (front ++ 10 ∷ []) ≡ Ok rows
    → IsOutcomeTo (Describe Octagon) asked (front ++ 10 ∷ listed.outcome.text) p → p.status ≡ Done → DecidesAlmostNormal rows p
