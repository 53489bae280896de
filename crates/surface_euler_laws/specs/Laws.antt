-- A connected normal surface in a table without invalid edges has Euler characteristic at most 2, and an octagonal
-- almost normal sphere exists if and only if one is listed, by their numbers (Rubinstein 1995; Thompson 1994).
use Rattle.std.specs.Prelude.{◌≡◌, ℕ, ◌*◌, ◌<◌, ◌⊎◌, pos, ◌≤ℤ◌, List, None, ◌↔◌}
use Rattle.std.specs.List.{Contains}
use Rattle.skeleton_definitions.specs.Skeleton.{Skeleton, IsSkeleton, IsFirstInvalid}
use Rattle.skeleton_definitions.specs.declared.Link.{Link}
use Rattle.surface_definitions.specs.declared.Coords.{Coords}
use Rattle.surface_definitions.specs.declared.Coords.TheVariants.{Octagon}
use Rattle.surface_definitions.specs.Pieces.{AreComponents, component_vector}
use Rattle.surface_laws.specs.MatchingLaws.{HasTriangles}
use Rattle.surface_laws.specs.PieceLaws.{IsSurface}
use Rattle.surface_quad_lift_laws.specs.Laws.{HasLink}
use Rattle.surface_efficiency_laws.specs.Laws.{IsPositive, IsConnectedSurface, IsZeroEfficient}
use Rattle.surface_efficiency_laws.specs.Octagons.{octagons, HasOctagonalSphereNumbers}
use Rattle.surface_vector_definitions.specs.Properties.{characteristic}
use Rattle.surface_agreement_laws.specs.VertexSurfaces.{IsVertexSurfaceOf, IsSurfaceListOf}

-- a surface has at most 2 for each of its components, in standard and octagon coordinates
abbrev pub SurfacesHaveAtMostTwoEach : Type 0
SurfacesHaveAtMostTwoEach =
    (s : Skeleton) (coords : Coords) (xs components : List ℕ) (count : ℕ) → IsSkeleton s → IsFirstInvalid s None → IsSurface s.rows coords xs → AreComponents s.rows coords xs components count
    → characteristic s coords xs ≤ℤ pos (2 * count)

-- so a connected one has at most 2
abbrev pub ConnectedHaveAtMostTwo : Type 0
ConnectedHaveAtMostTwo =
    (s : Skeleton) (coords : Coords) (xs : List ℕ) → IsSkeleton s → IsFirstInvalid s None → IsConnectedSurface s coords xs → characteristic s coords xs ≤ℤ pos 2

-- the vector of a component is a connected surface
abbrev pub ComponentsAreConnected : Type 0
ComponentsAreConnected =
    (s : Skeleton) (coords : Coords) (xs components : List ℕ) (count i : ℕ) → IsSurface s.rows coords xs → AreComponents s.rows coords xs components count → i < count
    → IsConnectedSurface s coords (component_vector xs components i)

-- so each component has at most 2
abbrev pub ComponentsHaveAtMostTwo : Type 0
ComponentsHaveAtMostTwo =
    (s : Skeleton) (coords : Coords) (xs components : List ℕ) (count i : ℕ) → IsSkeleton s → IsFirstInvalid s None → IsSurface s.rows coords xs → AreComponents s.rows coords xs components count → i < count
    → characteristic s coords (component_vector xs components i) ≤ℤ pos 2

-- so each vertex surface has
abbrev pub VertexSurfacesHaveAtMostTwo : Type 0
VertexSurfacesHaveAtMostTwo =
    (s : Skeleton) (coords : Coords) (xs : List ℕ) → IsSkeleton s → IsFirstInvalid s None → HasTriangles coords
    → IsVertexSurfaceOf s coords xs → characteristic s coords xs ≤ℤ pos 2

-- and so each vertex link has
abbrev pub LinksHaveAtMostTwo : Type 0
LinksHaveAtMostTwo =
    (s : Skeleton) (c : ℕ) (link : Link) → IsSkeleton s → IsFirstInvalid s None → c < s.vertices.count → HasLink s c link → link.euler ≤ℤ pos 2

-- where that of a connected surface is positive it is 1, as that of a projective plane or a disc is, or 2, as that of a
-- sphere
abbrev pub PositiveIsOneOrTwo : Type 0
PositiveIsOneOrTwo =
    (s : Skeleton) (coords : Coords) (xs : List ℕ) → IsSkeleton s → IsFirstInvalid s None → IsConnectedSurface s coords xs → IsPositive s coords xs
    → (characteristic s coords xs ≡ pos 1) ⊎ (characteristic s coords xs ≡ pos 2)

-- Theorem: if no edge is invalid, a connected surface with octagons whose Euler characteristic is at least twice their
-- number has one octagon and Euler characteristic 2: an octagonal almost normal sphere, by its numbers.
abbrev pub OctagonalSphereNumbersAreOneAndTwo : Type 0
OctagonalSphereNumbersAreOneAndTwo =
    (s : Skeleton) (xs : List ℕ) → IsSkeleton s → IsFirstInvalid s None → IsConnectedSurface s Octagon xs → HasOctagonalSphereNumbers s xs
    → (octagons s xs ≡ 1) × (characteristic s Octagon xs ≡ pos 2)

-- a connected surface with one octagon and Euler characteristic 2: an octagonal almost normal sphere, by its numbers
pub record IsOctagonalAlmostNormalSphere (s : Skeleton) (xs : List ℕ) : Type 0 where
  pub connected : IsConnectedSurface s Octagon xs
  pub one_octagon : octagons s xs ≡ 1
  pub two : characteristic s Octagon xs ≡ pos 2

-- Theorem: if no edge is invalid and the table is 0-efficient by its numbers, an octagonal almost normal sphere exists,
-- by its numbers, if and only if one is listed.
abbrev pub AlmostNormalSphereIsListed : Type 0
AlmostNormalSphereIsListed =
    (s : Skeleton) (surfaces : List (List ℕ)) → IsSkeleton s → IsFirstInvalid s None → IsSurfaceListOf s Octagon surfaces → IsZeroEfficient s
    → ((xs : List ℕ) × IsOctagonalAlmostNormalSphere s xs) ↔ ((v : List ℕ) × Contains surfaces v × IsOctagonalAlmostNormalSphere s v)
