-- The components of a surface and those of its relabelled vector correspond.
use Rattle.std.specs.Prelude.{◌≡◌, ◌↔◌, ℕ, ◌<◌, List}
use Rattle.table_definitions.specs.Table.{Row}
use Rattle.table_definitions.specs.Relabelling.{Relabelling}
use Rattle.signature_definitions.specs.Labellings.{Relabels}
use Rattle.skeleton_definitions.specs.Skeleton.{Skeleton, IsSkeleton}
use Rattle.surface_definitions.specs.declared.Coords.{Coords}
use Rattle.surface_definitions.specs.Pieces.{AreComponents, component_vector, IsTwoSided, IsOrientableComponent}
use Rattle.surface_vector_definitions.specs.Properties.{characteristic}
use Rattle.surface_laws.specs.PieceLaws.{IsSurface}
use Rattle.surface_relabelling_laws.specs.Vectors.{relabelled_vector}

-- a surface of a table with its components, and the components of its relabelled vector
pub record AreNumbered (coords : Coords) (rows new : List Row) (by : Relabelling) (xs components others : List ℕ) (count amount : ℕ) : Type 0 where
  pub relabels : Relabels rows new by
  pub surface : IsSurface rows coords xs
  pub one : AreComponents rows coords xs components count
  pub other : AreComponents new coords (relabelled_vector coords by xs) others amount

-- component j of ys is the relabelled vector of component i of xs; both are two-sided or neither is, and both
-- orientable or neither is
pub record IsSameComponent (coords : Coords) (rows new : List Row) (by : Relabelling) (xs ys components others : List ℕ) (i j : ℕ) : Type 0 where
  pub vectors : component_vector ys others j ≡ relabelled_vector coords by (component_vector xs components i)
  pub sides : IsTwoSided rows coords xs components i ↔ IsTwoSided new coords ys others j
  pub orientation : IsOrientableComponent rows coords xs components i ↔ IsOrientableComponent new coords ys others j

-- there are as many components, and they correspond one to one
pub record ComponentsCorrespond (coords : Coords) (rows new : List Row) (by : Relabelling) (xs ys components others : List ℕ) (count amount : ℕ) : Type 0 where
  pub as_many : count ≡ amount
  pub to : ℕ → ℕ
  pub in_range : (i : ℕ) → i < count → to i < amount
  pub once : (i j : ℕ) → i < count → j < count → to i ≡ to j → i ≡ j
  pub same : (i : ℕ) → i < count → IsSameComponent coords rows new by xs ys components others i (to i)

-- Theorem: the components of a surface and those of its relabelled vector correspond, with their sides and orientations
abbrev pub ComponentsAreRelabelled : Type 0
ComponentsAreRelabelled =
    (coords : Coords) (rows new : List Row) (by : Relabelling) (xs components others : List ℕ) (count amount : ℕ) → AreNumbered coords rows new by xs components others count amount
    → ComponentsCorrespond coords rows new by xs (relabelled_vector coords by xs) components others count amount

-- Theorem: corresponding components have the same Euler characteristic
abbrev pub ComponentCharacteristicsAreKept : Type 0
ComponentCharacteristicsAreKept =
    (s other : Skeleton) (coords : Coords) (by : Relabelling) (xs components others : List ℕ) (count amount i j : ℕ) → IsSkeleton s → IsSkeleton other
    → AreNumbered coords s.rows other.rows by xs components others count amount → IsSameComponent coords s.rows other.rows by xs (relabelled_vector coords by xs) components others i j
    → characteristic other coords (component_vector (relabelled_vector coords by xs) others j) ≡ characteristic s coords (component_vector xs components i)
