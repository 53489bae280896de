-- The Euler characteristics of the listed vertex surfaces decide whether each connected surface of positive Euler
-- characteristic is a vertex link, which in standard coordinates is 0-efficiency (Jaco and Oertel 1984; Jaco and
-- Rubinstein 2003).
use Rattle.std.specs.Prelude.{◌≡◌, ℕ, ◌⊎◌, ◌↔◌, pos, ◌<ℤ◌, List}
use Rattle.std.specs.List.{Contains}
use Rattle.cone_definitions.specs.Vectors.{IsInside}
use Rattle.table_definitions.specs.Table.{IsTable}
use Rattle.skeleton_definitions.specs.Skeleton.{Skeleton, IsSkeleton}
use Rattle.surface_definitions.specs.declared.Coords.{Coords}
use Rattle.surface_definitions.specs.declared.Coords.TheVariants.{Standard}
use Rattle.surface_definitions.specs.Pieces.{AreComponents, component_vector}
use Rattle.surface_vector_definitions.specs.Properties.{AreProperties, characteristic}
use Rattle.surface_vector_definitions.specs.declared.Properties.{Properties}
use Rattle.surface_laws.specs.MatchingLaws.{HasTriangles}
use Rattle.surface_laws.specs.PieceLaws.{IsSurface}
use Rattle.surface_quad_laws.specs.LinkLaws.{IsVertexLink, IsCanonical}
use Rattle.surface_agreement_laws.specs.VertexSurfaces.{IsVertexSurfaceOf, IsSurfaceListOf}

-- Theorem: the Euler characteristic in the properties of a vector is the one defined for it.
abbrev pub CharacteristicIsAnswered : Type 0
CharacteristicIsAnswered = (s : Skeleton) (coords : Coords) (xs : List ℕ) (p : Properties) → AreProperties s coords xs p → p.euler ≡ characteristic s coords xs

-- the Euler characteristic is positive: if no edge is invalid, a connected surface is then a sphere, a projective plane
-- or a disc
abbrev pub IsPositive : Skeleton → Coords → List ℕ → Type 0
IsPositive s coords xs = pos 0 <ℤ characteristic s coords xs

-- a surface with exactly one component
pub record IsConnectedSurface (s : Skeleton) (coords : Coords) (xs : List ℕ) : Type 0 where
  pub surface : IsSurface s.rows coords xs
  pub components : List ℕ
  pub one : AreComponents s.rows coords xs components 1

-- a listed canonical surface of positive Euler characteristic whose support lies in that of x
pub record HasPositiveInside (s : Skeleton) (coords : Coords) (surfaces : List (List ℕ)) (x : List ℕ) : Type 0 where
  pub v : List ℕ
  pub listed : Contains surfaces v
  pub inside : IsInside v x
  pub canonical : IsCanonical s coords v
  pub positive : IsPositive s coords v

-- Theorem: the support of each canonical surface x of positive Euler characteristic contains that of a listed canonical
-- surface of positive Euler characteristic.
abbrev pub PositiveSurfacesHaveListed : Type 0
PositiveSurfacesHaveListed =
    (s : Skeleton) (coords : Coords) (surfaces : List (List ℕ)) (x : List ℕ) → IsSurfaceListOf s coords surfaces
    → IsSurface s.rows coords x → IsCanonical s coords x → IsPositive s coords x → HasPositiveInside s coords surfaces x

-- Theorem: each component of a surface is a vertex link or canonical.
abbrev pub ComponentsAreLinksOrCanonical : Type 0
ComponentsAreLinksOrCanonical =
    (s : Skeleton) (coords : Coords) (xs components : List ℕ) (count i : ℕ) → IsSkeleton s → IsSurface s.rows coords xs
    → AreComponents s.rows coords xs components count
    → IsVertexLink s coords (component_vector xs components i) ⊎ IsCanonical s coords (component_vector xs components i)

-- Theorem: each vertex surface in standard or octagon coordinates is connected.
abbrev pub VertexSurfacesAreConnected : Type 0
VertexSurfacesAreConnected =
    (s : Skeleton) (coords : Coords) (xs : List ℕ) → IsTable s.rows → HasTriangles coords
    → IsVertexSurfaceOf s coords xs → IsConnectedSurface s coords xs

-- each connected surface of positive Euler characteristic is a vertex link. In octagon coordinates connected surfaces
-- with octagons count too, so that a 0-efficient table may fail this.
abbrev pub PositiveAreLinks : Skeleton → Coords → Type 0
PositiveAreLinks s coords = (xs : List ℕ) → IsConnectedSurface s coords xs → IsPositive s coords xs → IsVertexLink s coords xs

-- 0-efficient by its numbers, for closed tables as Jaco and Rubinstein define it: each connected surface of positive
-- Euler characteristic, in standard coordinates, is a vertex link. For tables with boundary they ask it of normal discs
-- alone, while a sphere around a boundary component counts here too.
abbrev pub IsZeroEfficient : Skeleton → Type 0
IsZeroEfficient s = PositiveAreLinks s Standard

-- Theorem: each connected surface of positive Euler characteristic is a vertex link if and only if each listed one is.
-- In standard coordinates the first is 0-efficiency by the table's numbers.
abbrev pub ListDecidesEfficiency : Type 0
ListDecidesEfficiency =
    (s : Skeleton) (coords : Coords) (surfaces : List (List ℕ)) → IsSkeleton s → HasTriangles coords → IsSurfaceListOf s coords surfaces
    → PositiveAreLinks s coords ↔ ((v : List ℕ) → Contains surfaces v → IsPositive s coords v → IsVertexLink s coords v)

-- a connected surface of positive Euler characteristic that is no vertex link
pub record IsPositiveNonLink (s : Skeleton) (coords : Coords) (xs : List ℕ) : Type 0 where
  pub connected : IsConnectedSurface s coords xs
  pub positive : IsPositive s coords xs
  pub no_link : ¬ IsVertexLink s coords xs

-- Theorem: a connected surface of positive Euler characteristic that is no vertex link exists if and only if one is
-- listed.
abbrev pub PositiveNonLinkIsListed : Type 0
PositiveNonLinkIsListed =
    (s : Skeleton) (coords : Coords) (surfaces : List (List ℕ)) → IsSkeleton s → HasTriangles coords → IsSurfaceListOf s coords surfaces
    → ((xs : List ℕ) × IsPositiveNonLink s coords xs) ↔ ((v : List ℕ) × Contains surfaces v × IsPositiveNonLink s coords v)

-- Theorem: if a component of a surface has positive Euler characteristic and is no vertex link, some listed canonical
-- surface of positive Euler characteristic has its support in that of the component.
abbrev pub PositiveComponentsHaveListed : Type 0
PositiveComponentsHaveListed =
    (s : Skeleton) (coords : Coords) (surfaces : List (List ℕ)) (xs components : List ℕ) (count i : ℕ) → IsSkeleton s → IsSurfaceListOf s coords surfaces
    → IsSurface s.rows coords xs → AreComponents s.rows coords xs components count → IsPositive s coords (component_vector xs components i)
    → ¬ IsVertexLink s coords (component_vector xs components i) → HasPositiveInside s coords surfaces (component_vector xs components i)

-- Theorem: each connected surface of positive Euler characteristic is a vertex link, or one exists that is not.
abbrev pub EfficiencyIsDecided : Type 0
EfficiencyIsDecided =
    (s : Skeleton) (coords : Coords) → IsSkeleton s → HasTriangles coords → PositiveAreLinks s coords ⊎ ((xs : List ℕ) × IsPositiveNonLink s coords xs)
