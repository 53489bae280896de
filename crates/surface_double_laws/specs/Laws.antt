-- Doubles of surfaces, the parity of Euler characteristics, and 0-efficiency of closed orientable tables by surfaces of
-- Euler characteristic 2 (Jaco and Rubinstein 2003).
use Rattle.std.specs.Prelude.{◌≡◌, ◌≢◌, ℕ, ◌<◌, true, false, pos, ◌+ℤ◌, ℤ, ◌↔◌, List, None}
use Rattle.std.specs.List.{Contains}
use Rattle.cone_definitions.specs.Vectors.{multiple}
use Rattle.table_definitions.specs.Places.{is_closed}
use Rattle.skeleton_definitions.specs.Orientation.{IsOrientable}
use Rattle.skeleton_definitions.specs.Skeleton.{Skeleton, IsSkeleton, IsFirstInvalid}
use Rattle.surface_definitions.specs.Characteristic.{meets_boundary}
use Rattle.surface_definitions.specs.declared.Coords.{Coords}
use Rattle.surface_definitions.specs.declared.Coords.TheVariants.{Standard}
use Rattle.surface_definitions.specs.Pieces.{AreComponents, component_vector, IsTwoSided, IsOrientableComponent}
use Rattle.surface_agreement_laws.specs.VertexSurfaces.{IsSurfaceListOf}
use Rattle.surface_efficiency_laws.specs.Laws.{IsConnectedSurface, IsPositive, PositiveAreLinks, IsZeroEfficient}
use Rattle.surface_laws.specs.MatchingLaws.{HasTriangles}
use Rattle.surface_laws.specs.PieceLaws.{IsSurface}
use Rattle.surface_quad_laws.specs.LinkLaws.{IsVertexLink}
use Rattle.surface_vector_definitions.specs.Properties.{characteristic}

-- Theorem: the double of a surface is a surface, with twice its Euler characteristic.
abbrev pub DoublesAreSurfaces : Type 0
DoublesAreSurfaces =
    (s : Skeleton) (coords : Coords) (xs : List ℕ) → IsSurface s.rows coords xs
    → IsSurface s.rows coords (multiple 2 xs) × (characteristic s coords (multiple 2 xs) ≡ characteristic s coords xs +ℤ characteristic s coords xs)

-- Theorem: the double of a connected surface that is one-sided is connected.
abbrev pub DoublesAreConnected : Type 0
DoublesAreConnected =
    (s : Skeleton) (coords : Coords) (xs : List ℕ) (c : IsConnectedSurface s coords xs) → ¬ IsTwoSided s.rows coords xs c.components 0
    → IsConnectedSurface s coords (multiple 2 xs)

-- two components, each of which is the surface
pub record AreTwoCopies (s : Skeleton) (coords : Coords) (xs : List ℕ) : Type 0 where
  pub components : List ℕ
  pub are : AreComponents s.rows coords (multiple 2 xs) components 2
  pub each : (i : ℕ) → i < 2 → component_vector (multiple 2 xs) components i ≡ xs

-- Theorem: the double of a connected surface that is two-sided is two copies of it.
abbrev pub DoublesAreTwoCopies : Type 0
DoublesAreTwoCopies = (s : Skeleton) (coords : Coords) (xs : List ℕ) (c : IsConnectedSurface s coords xs) → IsTwoSided s.rows coords xs c.components 0 → AreTwoCopies s coords xs

-- twice an integer
abbrev pub IsEven : ℤ → Type 0
IsEven e = (m : ℤ) × (e ≡ m +ℤ m)

-- Theorem: if no edge is invalid, the Euler characteristic of a connected orientable surface that does not meet the
-- boundary is even.
abbrev pub OrientableSurfacesAreEven : Type 0
OrientableSurfacesAreEven =
    (s : Skeleton) (coords : Coords) (xs : List ℕ) (c : IsConnectedSurface s coords xs) → IsSkeleton s → IsFirstInvalid s None → meets_boundary s.rows coords xs ≡ false
    → IsOrientableComponent s.rows coords xs c.components 0 → IsEven (characteristic s coords xs)

-- Theorem: if no edge is invalid, the Euler characteristic of each orientable component of a surface that does not meet
-- the boundary is even.
abbrev pub OrientableComponentsAreEven : Type 0
OrientableComponentsAreEven =
    (s : Skeleton) (coords : Coords) (xs components : List ℕ) (count i : ℕ) → IsSkeleton s → IsFirstInvalid s None → IsSurface s.rows coords xs → AreComponents s.rows coords xs components count
    → meets_boundary s.rows coords (component_vector xs components i) ≡ false → IsOrientableComponent s.rows coords xs components i → IsEven (characteristic s coords (component_vector xs components i))

-- Theorem: if no edge is invalid, the Euler characteristic of a surface that does not meet the boundary, and of which
-- each component is orientable, is even.
abbrev pub OrientablePartsAreEven : Type 0
OrientablePartsAreEven =
    (s : Skeleton) (coords : Coords) (xs components : List ℕ) (count : ℕ) → IsSkeleton s → IsFirstInvalid s None → IsSurface s.rows coords xs → AreComponents s.rows coords xs components count
    → meets_boundary s.rows coords xs ≡ false → ((i : ℕ) → i < count → IsOrientableComponent s.rows coords xs components i) → IsEven (characteristic s coords xs)

-- Theorem: in a closed orientable table without invalid edges, a connected surface of Euler characteristic 1 is
-- one-sided.
abbrev pub OneIsOneSided : Type 0
OneIsOneSided =
    (s : Skeleton) (coords : Coords) (xs : List ℕ) (c : IsConnectedSurface s coords xs) → IsSkeleton s → IsFirstInvalid s None → is_closed s.rows ≡ true → IsOrientable s.rows
    → characteristic s coords xs ≡ pos 1 → ¬ IsTwoSided s.rows coords xs c.components 0

-- Theorem: in a closed orientable table without invalid edges, the Euler characteristic of a connected two-sided
-- surface is even.
abbrev pub TwoSidedSurfacesAreEven : Type 0
TwoSidedSurfacesAreEven =
    (s : Skeleton) (coords : Coords) (xs : List ℕ) (c : IsConnectedSurface s coords xs) → IsSkeleton s → IsFirstInvalid s None → is_closed s.rows ≡ true → IsOrientable s.rows
    → IsTwoSided s.rows coords xs c.components 0 → IsEven (characteristic s coords xs)

-- Theorem: in a closed orientable table without invalid edges, the Euler characteristic of each two-sided component of
-- a surface is even.
abbrev pub TwoSidedComponentsAreEven : Type 0
TwoSidedComponentsAreEven =
    (s : Skeleton) (coords : Coords) (xs components : List ℕ) (count i : ℕ) → IsSkeleton s → IsFirstInvalid s None → is_closed s.rows ≡ true → IsOrientable s.rows → IsSurface s.rows coords xs
    → AreComponents s.rows coords xs components count → IsTwoSided s.rows coords xs components i → IsEven (characteristic s coords (component_vector xs components i))

-- Theorem: in a closed orientable table without invalid edges, the Euler characteristic of a surface of which each
-- component is two-sided is even.
abbrev pub TwoSidedPartsAreEven : Type 0
TwoSidedPartsAreEven =
    (s : Skeleton) (coords : Coords) (xs components : List ℕ) (count : ℕ) → IsSkeleton s → IsFirstInvalid s None → is_closed s.rows ≡ true → IsOrientable s.rows → IsSurface s.rows coords xs
    → AreComponents s.rows coords xs components count → ((i : ℕ) → i < count → IsTwoSided s.rows coords xs components i) → IsEven (characteristic s coords xs)

-- each connected surface of Euler characteristic 2 is a vertex link: for closed tables and in standard coordinates this
-- is 0-efficiency as Jaco and Rubinstein define it, since a connected closed surface of Euler characteristic 2 is a
-- sphere
abbrev pub SpheresAreLinks : Skeleton → Coords → Type 0
SpheresAreLinks s coords = (xs : List ℕ) → IsConnectedSurface s coords xs → characteristic s coords xs ≡ pos 2 → IsVertexLink s coords xs

-- Theorem: a closed orientable table without invalid edges is 0-efficient by its numbers if and only if each connected
-- surface of Euler characteristic 2, in standard coordinates, is a vertex link.
abbrev pub SpheresDecideEfficiency : Type 0
SpheresDecideEfficiency = (s : Skeleton) → IsSkeleton s → IsFirstInvalid s None → is_closed s.rows ≡ true → IsOrientable s.rows → IsZeroEfficient s ↔ SpheresAreLinks s Standard

-- Theorem: in a closed orientable table without invalid edges, in standard and octagon coordinates, each connected
-- surface of positive Euler characteristic is a vertex link if and only if each of Euler characteristic 2 is one.
abbrev pub SpheresDecideLinks : Type 0
SpheresDecideLinks = (s : Skeleton) (coords : Coords) → IsSkeleton s → IsFirstInvalid s None → is_closed s.rows ≡ true → IsOrientable s.rows → PositiveAreLinks s coords ↔ SpheresAreLinks s coords

-- Theorem: in a closed orientable table without invalid edges, each connected surface of Euler characteristic 2 is a
-- vertex link if and only if each listed surface of positive Euler characteristic is one.
abbrev pub ListDecidesSpheres : Type 0
ListDecidesSpheres =
    (s : Skeleton) (coords : Coords) (surfaces : List (List ℕ)) → IsSkeleton s → IsFirstInvalid s None → is_closed s.rows ≡ true → IsOrientable s.rows → HasTriangles coords
    → IsSurfaceListOf s coords surfaces → SpheresAreLinks s coords ↔ ((v : List ℕ) → Contains surfaces v → IsPositive s coords v → IsVertexLink s coords v)

-- Theorem: in a closed orientable table without invalid edges, each connected surface of positive Euler characteristic
-- is a vertex link if and only if no listed surface has Euler characteristic 1, and each listed one of Euler
-- characteristic 2 is a vertex link. In standard coordinates the first is 0-efficiency by the table's numbers.
abbrev pub PlanesAndSpheresDecide : Type 0
PlanesAndSpheresDecide =
    (s : Skeleton) (coords : Coords) (surfaces : List (List ℕ)) → IsSkeleton s → IsFirstInvalid s None → is_closed s.rows ≡ true → IsOrientable s.rows → HasTriangles coords
    → IsSurfaceListOf s coords surfaces
    → PositiveAreLinks s coords ↔ ((v : List ℕ) → Contains surfaces v → (characteristic s coords v ≢ pos 1) × (characteristic s coords v ≡ pos 2 → IsVertexLink s coords v))
