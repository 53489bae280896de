-- What `describe` prints of a list that is passed in parts, on inputs that are read as the table and a part each.
use Rattle.std.specs.Prelude.{◌≡◌, ◌↔◌, ℕ, List, [], ◌∷◌, ◌++◌, map, Ok}
use Rattle.std.specs.List.{All, Contains, flat_map}
use Rattle.table_definitions.specs.Table.{Row}
use Rattle.skeleton_definitions.specs.Skeleton.{Skeleton, IsSkeleton}
use Rattle.surface_definitions.specs.declared.Coords.{Coords}
use Rattle.surface_definitions.specs.declared.Coords.TheVariants.{Octagon}
use Rattle.surface_vector_definitions.specs.Answers.{Description}
use Rattle.text_document_definitions.specs.Documents.{table_document}
use Rattle.command_definitions.specs.declared.Request.TheVariants.{Describe}
use Rattle.outcome_definitions.specs.Vectors.{describe_outcome}
use Rattle.surface_laws.specs.MatchingLaws.{HasTriangles}
use Rattle.surface_agreement_laws.specs.VertexSurfaces.{IsSurfaceListOf}
use Rattle.surface_efficiency_laws.specs.Laws.{PositiveAreLinks, IsZeroEfficient}
use Rattle.surface_euler_laws.specs.Laws.{IsOctagonalAlmostNormalSphere}
use Rattle.outcome_list_laws.specs.Efficiency.{IsLinkingWherePositive, IsPrintedAlmostNormal}
use Rattle.outcome_list_laws.specs.Runs.{AreListed, ListRun, IsDoneRun, IsFileRun, vectors_of, HaveSameVectors}

-- the runs print these descriptions, one run after the other: one for each vector, in the order of the vectors
pub record ArePrinted (s : Skeleton) (coords : Coords) (runs : List ListRun) (descriptions : List Description) : Type 0 where
  pub parts : List (List Description)
  pub outcomes : map (λ (run : ListRun). run.outcome) runs ≡ map (λ (part : List Description). describe_outcome s coords (Ok part)) parts
  pub joined : flat_map (λ (part : List Description). part) parts ≡ descriptions
  pub vectors : map (λ (d : Description). d.vector) descriptions ≡ vectors_of runs

-- the list is that of all vertex surfaces of the table, and each connected surface of positive Euler characteristic is
-- a vertex link if and only if each surface that the runs describe is printed as one
pub record PartsDecideLinks (coords : Coords) (rows : List Row) (list : List (List ℕ)) (runs : List ListRun) : Type 0 where
  pub skeleton : Skeleton
  pub of_rows : skeleton.rows ≡ rows
  pub is_skeleton : IsSkeleton skeleton
  pub printed : List Description
  pub are_printed : ArePrinted skeleton coords runs printed
  pub surfaces : IsSurfaceListOf skeleton coords list
  pub decides : PositiveAreLinks skeleton coords ↔ All IsLinkingWherePositive printed

-- Theorem: if the inputs of some runs of `describe` that are done are read as the table and, together, as the vectors
-- that `surfaces` listed for it, in any order, the runs decide whether each connected surface of positive Euler
-- characteristic is a vertex link.
abbrev pub PartsDecideEfficiency : Type 0
PartsDecideEfficiency =
    (coords : Coords) (rows : List Row) (list : List (List ℕ)) (runs : List ListRun) → HasTriangles coords → AreListed coords rows list
    → All (IsDoneRun (Describe coords) rows) runs → HaveSameVectors list (vectors_of runs) → PartsDecideLinks coords rows list runs

-- Theorem: if some runs of `describe` are on a file that is read as the table, each with the lines of some vectors
-- joined to its end, and these are together the vectors that `surfaces` listed for the table, in any order, the runs
-- decide whether each connected surface of positive Euler characteristic is a vertex link.
abbrev pub FilePartsDecideEfficiency : Type 0
FilePartsDecideEfficiency =
    (coords : Coords) (front : List ℕ) (rows : List Row) (list : List (List ℕ)) (runs : List ListRun) → HasTriangles coords → table_document (front ++ 10 ∷ []) ≡ Ok rows → AreListed coords rows list
    → All (IsFileRun (Describe coords) front) runs → HaveSameVectors list (vectors_of runs) → PartsDecideLinks coords rows list runs

-- the list is that of all octagon vertex surfaces of the table, and if it is 0-efficient there is an octagonal almost
-- normal sphere if and only if one is printed
pub record PartsDecideAlmostNormal (rows : List Row) (list : List (List ℕ)) (runs : List ListRun) : Type 0 where
  pub skeleton : Skeleton
  pub of_rows : skeleton.rows ≡ rows
  pub is_skeleton : IsSkeleton skeleton
  pub printed : List Description
  pub are_printed : ArePrinted skeleton Octagon runs printed
  pub surfaces : IsSurfaceListOf skeleton Octagon list
  pub decides : IsZeroEfficient skeleton → ((xs : List ℕ) × IsOctagonalAlmostNormalSphere skeleton xs) ↔ ((d : Description) × Contains printed d × IsPrintedAlmostNormal skeleton d)

-- Theorem: if the inputs of one or more runs of `describe` in octagon coordinates that are done are read as the table
-- and, together, as the vectors that `surfaces` listed for it, in any order, the runs decide whether a 0-efficient
-- table has an octagonal almost normal sphere by its numbers.
abbrev pub PartsDecideSpheres : Type 0
PartsDecideSpheres =
    (rows : List Row) (list : List (List ℕ)) (run : ListRun) (runs : List ListRun) → AreListed Octagon rows list
    → All (IsDoneRun (Describe Octagon) rows) (run ∷ runs) → HaveSameVectors list (vectors_of (run ∷ runs)) → PartsDecideAlmostNormal rows list (run ∷ runs)
