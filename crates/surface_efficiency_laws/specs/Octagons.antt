-- Octagonal almost normal spheres by their numbers (Rubinstein 1995; Thompson 1994): if each listed surface of positive
-- Euler characteristic and without octagons is a vertex link, the listed surfaces with octagons decide whether there is
-- one. Almost normal surfaces with a tube are not meant.
use Rattle.std.specs.Prelude.{◌≡◌, ℕ, ◌*◌, ◌≤◌, ◌↔◌, pos, ◌≤ℤ◌, List, length, filter, sum_by, slice_index}
use Rattle.std.specs.List.{Contains}
use Rattle.cone_definitions.specs.Vectors.{IsInside}
use Rattle.table_definitions.specs.Lists.{below}
use Rattle.skeleton_definitions.specs.Skeleton.{Skeleton, IsSkeleton}
use Rattle.surface_definitions.specs.Coordinates.{columns, is_octagon}
use Rattle.surface_definitions.specs.declared.Coords.TheVariants.{Octagon}
use Rattle.surface_laws.specs.PieceLaws.{IsSurface}
use Rattle.surface_efficiency_laws.specs.Laws.{IsPositive, IsConnectedSurface, IsZeroEfficient}
use Rattle.surface_agreement_laws.specs.VertexSurfaces.{IsSurfaceListOf}
use Rattle.surface_quad_laws.specs.LinkLaws.{IsCanonical, IsVertexLink}
use Rattle.surface_vector_definitions.specs.Properties.{characteristic}

-- the sum of the octagon entries
abbrev pub octagons : Skeleton → List ℕ → ℕ
octagons s xs = sum_by (slice_index xs) (filter (is_octagon Octagon) (below (columns Octagon (length s.rows))))

-- each listed surface of positive Euler characteristic and without octagons is a vertex link
abbrev pub PositiveWithoutOctagonsAreLinks : Skeleton → List (List ℕ) → Type 0
PositiveWithoutOctagonsAreLinks s surfaces = (v : List ℕ) → Contains surfaces v → octagons s v ≡ 0 → IsPositive s Octagon v → IsVertexLink s Octagon v

-- Theorem: each listed surface of positive Euler characteristic and without octagons is a vertex link if and only if
-- the table is 0-efficient by its numbers.
abbrev pub OctagonListDecidesEfficiency : Type 0
OctagonListDecidesEfficiency =
    (s : Skeleton) (surfaces : List (List ℕ)) → IsSkeleton s → IsSurfaceListOf s Octagon surfaces → PositiveWithoutOctagonsAreLinks s surfaces ↔ IsZeroEfficient s

-- k octagons, k at least 1, and Euler characteristic at least 2k; an octagonal almost normal sphere has k = 1 and Euler
-- characteristic 2
pub record HasOctagonalSphereNumbers (s : Skeleton) (xs : List ℕ) : Type 0 where
  pub some : 1 ≤ octagons s xs
  pub twice : pos (2 * octagons s xs) ≤ℤ characteristic s Octagon xs

-- a listed surface v with HasOctagonalSphereNumbers whose support lies in that of x
pub record HasOctagonalSphereInside (s : Skeleton) (surfaces : List (List ℕ)) (x : List ℕ) : Type 0 where
  pub v : List ℕ
  pub listed : Contains surfaces v
  pub inside : IsInside v x
  pub octagonal : HasOctagonalSphereNumbers s v

-- Theorem: if PositiveWithoutOctagonsAreLinks holds, the support of each canonical surface x with
-- HasOctagonalSphereNumbers contains that of a listed surface with HasOctagonalSphereNumbers.
abbrev pub OctagonSurfacesHaveListed : Type 0
OctagonSurfacesHaveListed =
    (s : Skeleton) (surfaces : List (List ℕ)) (x : List ℕ) → IsSurfaceListOf s Octagon surfaces → PositiveWithoutOctagonsAreLinks s surfaces
    → IsSurface s.rows Octagon x → IsCanonical s Octagon x → HasOctagonalSphereNumbers s x → HasOctagonalSphereInside s surfaces x

-- Theorem: if PositiveWithoutOctagonsAreLinks holds, a connected surface with HasOctagonalSphereNumbers exists if and
-- only if one is listed.
abbrev pub OctagonalSphereNumbersAreListed : Type 0
OctagonalSphereNumbersAreListed =
    (s : Skeleton) (surfaces : List (List ℕ)) → IsSkeleton s → IsSurfaceListOf s Octagon surfaces → PositiveWithoutOctagonsAreLinks s surfaces
    → ((xs : List ℕ) × IsConnectedSurface s Octagon xs × HasOctagonalSphereNumbers s xs) ↔ ((v : List ℕ) × Contains surfaces v × IsConnectedSurface s Octagon v × HasOctagonalSphereNumbers s v)

-- a listed surface with octagons and of positive Euler characteristic whose support lies in that of x
pub record HasOctagonInside (s : Skeleton) (surfaces : List (List ℕ)) (x : List ℕ) : Type 0 where
  pub v : List ℕ
  pub listed : Contains surfaces v
  pub inside : IsInside v x
  pub some : 1 ≤ octagons s v
  pub positive : IsPositive s Octagon v

-- Theorem: if PositiveWithoutOctagonsAreLinks holds, the support of each canonical surface x of positive Euler
-- characteristic contains that of a listed surface with octagons and of positive Euler characteristic.
abbrev pub PositiveSurfacesHaveOctagons : Type 0
PositiveSurfacesHaveOctagons =
    (s : Skeleton) (surfaces : List (List ℕ)) (x : List ℕ) → IsSurfaceListOf s Octagon surfaces → PositiveWithoutOctagonsAreLinks s surfaces
    → IsSurface s.rows Octagon x → IsCanonical s Octagon x → IsPositive s Octagon x → HasOctagonInside s surfaces x
