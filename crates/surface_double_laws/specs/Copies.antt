-- The components of m times a connected surface: how many there are, and their vectors.
use Rattle.std.specs.Prelude.{◌≡◌, ◌≢◌, ℕ, ◌+◌, ◌*◌, ◌/◌, ◌<◌, pos, ◌*ℤ◌, List}
use Rattle.cone_definitions.specs.Vectors.{multiple}
use Rattle.skeleton_definitions.specs.Skeleton.{Skeleton}
use Rattle.surface_definitions.specs.declared.Coords.{Coords}
use Rattle.surface_definitions.specs.Pieces.{AreComponents, component_vector, IsTwoSided}
use Rattle.surface_efficiency_laws.specs.Laws.{IsConnectedSurface}
use Rattle.surface_laws.specs.PieceLaws.{IsSurface}
use Rattle.surface_vector_definitions.specs.Properties.{characteristic}

-- the surface has exactly n components
pub record HasComponentCount (s : Skeleton) (coords : Coords) (ys : List ℕ) (n : ℕ) : Type 0 where
  pub components : List ℕ
  pub are : AreComponents s.rows coords ys components n
  pub only : (others : List ℕ) (count : ℕ) → AreComponents s.rows coords ys others count → count ≡ n

-- Theorem: m times a surface is a surface.
abbrev pub CopiesAreSurfaces : Type 0
CopiesAreSurfaces = (s : Skeleton) (coords : Coords) (xs : List ℕ) (m : ℕ) → IsSurface s.rows coords xs → IsSurface s.rows coords (multiple m xs)

-- Theorem: m times a connected two-sided surface has m components.
abbrev pub TwoSidedCopiesAreCounted : Type 0
TwoSidedCopiesAreCounted =
    (s : Skeleton) (coords : Coords) (xs : List ℕ) (m : ℕ) (c : IsConnectedSurface s coords xs) → IsTwoSided s.rows coords xs c.components 0 → HasComponentCount s coords (multiple m xs) m

-- Theorem: m times a connected one-sided surface has (m + 1) / 2 components, rounded down.
abbrev pub OneSidedCopiesAreCounted : Type 0
OneSidedCopiesAreCounted =
    (s : Skeleton) (coords : Coords) (xs : List ℕ) (m : ℕ) (c : IsConnectedSurface s coords xs) → ¬ IsTwoSided s.rows coords xs c.components 0 → HasComponentCount s coords (multiple m xs) ((m + 1) / 2)

-- Theorem: the Euler characteristic of m times a vector is m times that of the vector.
abbrev pub CharacteristicsAreMultiplied : Type 0
CharacteristicsAreMultiplied = (s : Skeleton) (coords : Coords) (xs : List ℕ) (m : ℕ) → characteristic s coords (multiple m xs) ≡ pos m *ℤ characteristic s coords xs

-- Theorem: each component of m times a connected two-sided surface has the vector of the surface.
abbrev pub TwoSidedCopiesAreTheSurface : Type 0
TwoSidedCopiesAreTheSurface =
    (s : Skeleton) (coords : Coords) (xs : List ℕ) (m : ℕ) (c : IsConnectedSurface s coords xs) → IsTwoSided s.rows coords xs c.components 0
    → (components : List ℕ) (count i : ℕ) → AreComponents s.rows coords (multiple m xs) components count → i < count → component_vector (multiple m xs) components i ≡ xs

-- Theorem: each component of 2k times a connected one-sided surface has the vector of its double.
abbrev pub EvenCopiesAreDoubles : Type 0
EvenCopiesAreDoubles =
    (s : Skeleton) (coords : Coords) (xs : List ℕ) (k : ℕ) (c : IsConnectedSurface s coords xs) → ¬ IsTwoSided s.rows coords xs c.components 0
    → (components : List ℕ) (count i : ℕ) → AreComponents s.rows coords (multiple (2 * k) xs) components count → i < count → component_vector (multiple (2 * k) xs) components i ≡ multiple 2 xs

-- of the components of ys, one has the vector xs, and each other one has twice this vector
pub record HasOneCopy (ys xs components : List ℕ) (count : ℕ) : Type 0 where
  pub index : ℕ
  pub in_range : index < count
  pub copy : component_vector ys components index ≡ xs
  pub others : (i : ℕ) → i < count → i ≢ index → component_vector ys components i ≡ multiple 2 xs

-- Theorem: one component of 2k + 1 times a connected one-sided surface has the vector of the surface, and each other
-- one that of its double.
abbrev pub OddCopiesHaveOneCopy : Type 0
OddCopiesHaveOneCopy =
    (s : Skeleton) (coords : Coords) (xs : List ℕ) (k : ℕ) (c : IsConnectedSurface s coords xs) → ¬ IsTwoSided s.rows coords xs c.components 0
    → (components : List ℕ) (count : ℕ) → AreComponents s.rows coords (multiple (2 * k + 1) xs) components count → HasOneCopy (multiple (2 * k + 1) xs) xs components count
