-- The text that `describe` prints determines what it says of the vectors.
use Rattle.std.specs.Prelude.{◌≡◌, ℕ, List, Ok}
use Rattle.std.specs.List.{AllZip}
use Rattle.cone_definitions.specs.Rows.{Row as EquationRow}
use Rattle.table_definitions.specs.Table.{Row}
use Rattle.skeleton_definitions.specs.Skeleton.{Skeleton, IsSkeleton}
use Rattle.surface_definitions.specs.declared.Coords.{Coords}
use Rattle.surface_definitions.specs.QuadEquations.{AreEquations}
use Rattle.surface_vector_definitions.specs.Properties.{characteristic}
use Rattle.surface_vector_definitions.specs.Components.{Component}
use Rattle.surface_vector_definitions.specs.Answers.{Description, IsDescription, AreAnswered}
use Rattle.outcome_definitions.specs.declared.Status.TheVariants.{Done}
use Rattle.outcome_definitions.specs.Outcomes.{Outcome}
use Rattle.outcome_definitions.specs.Vectors.{IsDescribeAnswer, describe_outcome}

-- an answer of `describe` with a description of each vector
pub record HasDescriptions (coords : Coords) (d : List Row × List (List ℕ)) (o : Outcome) : Type 0 where
  pub skeleton : Skeleton
  pub of_rows : skeleton.rows ≡ d.0
  pub is_skeleton : IsSkeleton skeleton
  pub equations : List EquationRow
  pub of_table : AreEquations coords d.0 equations
  pub descriptions : List Description
  pub described : AreAnswered (IsDescription skeleton coords equations) d.1 (Ok descriptions)
  pub outcome : o ≡ describe_outcome skeleton coords (Ok descriptions)

-- it is the answer with status 0
abbrev pub DoneHasDescriptions : Type 0
DoneHasDescriptions = (coords : Coords) (d : List Row × List (List ℕ)) (o : Outcome) → IsDescribeAnswer coords d o → o.status ≡ Done → HasDescriptions coords d o

-- what is printed of a component of each of two surfaces
pub record AreSameComponents (s t : Skeleton) (coords other : Coords) (c d : Component) : Type 0 where
  pub vectors : c.vector ≡ d.vector
  pub euler : characteristic s coords c.vector ≡ characteristic t other d.vector
  pub two_sided : c.two_sided ≡ d.two_sided
  pub orientable : c.orientable ≡ d.orientable

-- what is printed of a vector of each of two tables
pub record AreSameDescriptions (s t : Skeleton) (coords other : Coords) (d e : Description) : Type 0 where
  pub vectors : d.vector ≡ e.vector
  pub euler : d.properties.euler ≡ e.properties.euler
  pub linking : d.properties.linking ≡ e.properties.linking
  pub boundary : d.properties.boundary ≡ e.properties.boundary
  pub components : AllZip (AreSameComponents s t coords other) d.components e.components

-- Theorem: answers of `describe` with the same text have the same vectors, and say the same of them
abbrev pub DescriptionTextsDetermine : Type 0
DescriptionTextsDetermine =
    (coords other : Coords) (d e : List Row × List (List ℕ)) (o p : Outcome) (h : HasDescriptions coords d o) (k : HasDescriptions other e p) → o.text ≡ p.text
    → (d.1 ≡ e.1) × AllZip (AreSameDescriptions h.skeleton k.skeleton coords other) h.descriptions k.descriptions

-- Theorem: answers of `describe` with the same text have the same status, whether vectors are described or one is
-- refused
abbrev pub DescribeTextsDetermineStatus : Type 0
DescribeTextsDetermineStatus = (coords other : Coords) (d e : List Row × List (List ℕ)) (o p : Outcome) → IsDescribeAnswer coords d o → IsDescribeAnswer other e p → o.text ≡ p.text → o ≡ p
