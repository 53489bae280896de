-- Closed orientable tables: two-sided surfaces, and 0-efficiency by surfaces of Euler characteristic 2 (Jaco and
-- Rubinstein 2003). No edge of an orientable table is invalid, so nothing is asked of edges.
use Rattle.std.specs.Prelude.{◌≡◌, ◌≢◌, ℕ, ◌<◌, true, pos, ◌↔◌, List}
use Rattle.std.specs.List.{Contains}
use Rattle.table_definitions.specs.Places.{is_closed}
use Rattle.skeleton_definitions.specs.Orientation.{IsOrientable}
use Rattle.skeleton_definitions.specs.Skeleton.{Skeleton, IsSkeleton}
use Rattle.surface_definitions.specs.declared.Coords.{Coords}
use Rattle.surface_definitions.specs.declared.Coords.TheVariants.{Standard}
use Rattle.surface_definitions.specs.Pieces.{AreComponents, component_vector, IsTwoSided}
use Rattle.surface_agreement_laws.specs.VertexSurfaces.{IsSurfaceListOf}
use Rattle.surface_efficiency_laws.specs.Laws.{IsConnectedSurface, IsPositive, PositiveAreLinks, IsZeroEfficient}
use Rattle.surface_laws.specs.MatchingLaws.{HasTriangles}
use Rattle.surface_laws.specs.PieceLaws.{IsSurface}
use Rattle.surface_quad_laws.specs.LinkLaws.{IsVertexLink}
use Rattle.surface_vector_definitions.specs.Properties.{characteristic}
use Rattle.surface_double_laws.specs.Laws.{IsEven, SpheresAreLinks}

-- Theorem: in a closed orientable table the Euler characteristic of a connected two-sided surface is even.
abbrev pub OrientableTwoSidedAreEven : Type 0
OrientableTwoSidedAreEven =
    (s : Skeleton) (coords : Coords) (xs : List ℕ) (c : IsConnectedSurface s coords xs) → IsSkeleton s → is_closed s.rows ≡ true → IsOrientable s.rows → IsTwoSided s.rows coords xs c.components 0 → IsEven (characteristic s coords xs)

-- Theorem: in a closed orientable table the Euler characteristic of each two-sided component of a surface is even.
abbrev pub OrientableTwoSidedComponentsAreEven : Type 0
OrientableTwoSidedComponentsAreEven =
    (s : Skeleton) (coords : Coords) (xs components : List ℕ) (count i : ℕ) → IsSkeleton s → is_closed s.rows ≡ true → IsOrientable s.rows → IsSurface s.rows coords xs → AreComponents s.rows coords xs components count
    → IsTwoSided s.rows coords xs components i → IsEven (characteristic s coords (component_vector xs components i))

-- Theorem: in a closed orientable table the Euler characteristic of a surface of which each component is two-sided is
-- even.
abbrev pub OrientableTwoSidedPartsAreEven : Type 0
OrientableTwoSidedPartsAreEven =
    (s : Skeleton) (coords : Coords) (xs components : List ℕ) (count : ℕ) → IsSkeleton s → is_closed s.rows ≡ true → IsOrientable s.rows → IsSurface s.rows coords xs → AreComponents s.rows coords xs components count
    → ((i : ℕ) → i < count → IsTwoSided s.rows coords xs components i) → IsEven (characteristic s coords xs)

-- Theorem: in a closed orientable table a connected surface of Euler characteristic 1 is one-sided.
abbrev pub OrientableOneIsOneSided : Type 0
OrientableOneIsOneSided =
    (s : Skeleton) (coords : Coords) (xs : List ℕ) (c : IsConnectedSurface s coords xs) → IsSkeleton s → is_closed s.rows ≡ true → IsOrientable s.rows → characteristic s coords xs ≡ pos 1 → ¬ IsTwoSided s.rows coords xs c.components 0

-- Theorem: a closed orientable table is 0-efficient by its numbers if and only if each connected surface of Euler
-- characteristic 2, in standard coordinates, is a vertex link.
abbrev pub OrientableSpheresDecideEfficiency : Type 0
OrientableSpheresDecideEfficiency = (s : Skeleton) → IsSkeleton s → is_closed s.rows ≡ true → IsOrientable s.rows → IsZeroEfficient s ↔ SpheresAreLinks s Standard

-- Theorem: in a closed orientable table, in standard and octagon coordinates, each connected surface of positive Euler
-- characteristic is a vertex link if and only if each of Euler characteristic 2 is one.
abbrev pub OrientableSpheresDecideLinks : Type 0
OrientableSpheresDecideLinks = (s : Skeleton) (coords : Coords) → IsSkeleton s → is_closed s.rows ≡ true → IsOrientable s.rows → PositiveAreLinks s coords ↔ SpheresAreLinks s coords

-- Theorem: in a closed orientable table each connected surface of Euler characteristic 2 is a vertex link if and only
-- if each listed surface of positive Euler characteristic is one.
abbrev pub OrientableListDecidesSpheres : Type 0
OrientableListDecidesSpheres =
    (s : Skeleton) (coords : Coords) (surfaces : List (List ℕ)) → IsSkeleton s → is_closed s.rows ≡ true → IsOrientable s.rows → HasTriangles coords → IsSurfaceListOf s coords surfaces
    → SpheresAreLinks s coords ↔ ((v : List ℕ) → Contains surfaces v → IsPositive s coords v → IsVertexLink s coords v)

-- Theorem: in a closed orientable table each connected surface of Euler characteristic 2 is a vertex link if and only
-- if no listed surface has Euler characteristic 1, and each listed one of Euler characteristic 2 is a vertex link.
abbrev pub OrientableListedSpheresDecide : Type 0
OrientableListedSpheresDecide =
    (s : Skeleton) (coords : Coords) (surfaces : List (List ℕ)) → IsSkeleton s → is_closed s.rows ≡ true → IsOrientable s.rows → HasTriangles coords → IsSurfaceListOf s coords surfaces
    → SpheresAreLinks s coords ↔ ((v : List ℕ) → Contains surfaces v → (characteristic s coords v ≢ pos 1) × (characteristic s coords v ≡ pos 2 → IsVertexLink s coords v))
