-- Generators over a skeleton.
use Rattle.std.specs.Prelude.{ℕ, ◌<◌, ◌^◌, List, length}
use Rattle.skeleton_definitions.specs.Skeleton.{Skeleton, IsSkeleton}
use Rattle.presentation_definitions.specs.Presentations.{AreGenerators}
use Rattle.presentation_laws.specs.Classes.{AreLeastFaces}

-- the face classes that are generators, ascending
pub record Generators : Type 0 where
  pub skeleton : Skeleton
  pub classes : List ℕ

-- the generators over s, with the least face of each face class
pub record AreFound (s : Skeleton) (faces numbers : List ℕ) : Type 0 where
  pub skeleton : IsSkeleton s
  pub firsts : AreLeastFaces s faces
  pub generators : AreGenerators s numbers
  pub limited : length numbers < 2 ^ 32
