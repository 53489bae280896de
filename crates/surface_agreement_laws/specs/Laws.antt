-- The vertex surfaces of a table agree in its coordinates (Burton).
use Rattle.std.specs.Prelude.{◌≡◌, ◌≢◌, ℕ, ◌+◌, ◌*◌, ◌/◌, ◌%◌, ◌<◌, ◌≤◌, ◌↔◌, ◌⊎◌, true, List, length, map, filter, slice_index}
use Rattle.std.specs.List.{All, Contains}
use Rattle.cone_definitions.specs.Rows.{Row as EquationRow, IsSolution}
use Rattle.cone_definitions.specs.Surfaces.{IsAdmissible}
use Rattle.cone_definitions.specs.Vectors.{IsPrimitive}
use Rattle.skeleton_definitions.specs.Skeleton.{Skeleton, IsSkeleton}
use Rattle.skeleton_definitions.specs.declared.Link.{Link}
use Rattle.surface_definitions.specs.Characteristic.{is_linking}
use Rattle.surface_definitions.specs.Coordinates.{columns, clash_list, tri_column}
use Rattle.surface_definitions.specs.declared.Coords.{Coords}
use Rattle.surface_definitions.specs.declared.Coords.TheVariants.{Standard, Quad, Octagon}
use Rattle.surface_definitions.specs.QuadEquations.{AreEquations}
use Rattle.surface_laws.specs.LiftLaws.{IsLiftOf}
use Rattle.surface_laws.specs.MatchingLaws.{HasTriangles}
use Rattle.surface_laws.specs.PieceLaws.{IsSurface}
use Rattle.sum_definitions.specs.Sums.{Term}
use Rattle.sum_laws.specs.Laws.{IsSumOfRays}
use Rattle.surface_quad_laws.specs.LinkLaws.{link_of, IsCanonical, IsVertexLink}
use Rattle.surface_quad_laws.specs.SolutionLaws.{IsStandardSolution, quads_of}
use Rattle.surface_quad_lift_laws.specs.Laws.{HasSphereAndDiscLinks}
use Rattle.surface_agreement_laws.specs.VertexSurfaces.{IsVertexSurfaceBy, IsSurfaceListBy, IsVertexSurfaceOf, IsSurfaceListOf, in_octagons, has_no_octagon}
use Rattle.surface_vector_definitions.specs.Properties.{characteristic}

-- the lift of a quad vertex surface, where there is one, is a standard vertex surface
abbrev pub LiftsAreVertexSurfaces : Type 0
LiftsAreVertexSurfaces =
    (s : Skeleton) (quad_rows : List EquationRow) (xs lift : List ℕ) → IsSkeleton s → AreEquations Quad s.rows quad_rows → IsVertexSurfaceBy s Quad quad_rows xs → IsLiftOf s xs lift
    → IsVertexSurfaceOf s Standard lift

-- so is each vertex link, in octagon coordinates too
abbrev pub LinksAreVertexSurfaces : Type 0
LinksAreVertexSurfaces = (s : Skeleton) (coords : Coords) (c : ℕ) → IsSkeleton s → HasTriangles coords → c < s.vertices.count → IsVertexSurfaceOf s coords (link_of s coords c)

-- a canonical standard vertex surface with the given quads, and the only canonical solution with them
pub record IsOneVertexSurfaceOver (s : Skeleton) (xs ys : List ℕ) : Type 0 where
  pub vertex : IsVertexSurfaceOf s Standard ys
  pub is_canonical : IsCanonical s Standard ys
  pub over : quads_of s ys ≡ xs
  pub only : (other : List ℕ) → IsStandardSolution s other → IsCanonical s Standard other → quads_of s other ≡ xs → other ≡ ys

-- where all links are spheres or discs, each quad vertex surface has one over it
abbrev pub QuadVertexSurfacesLift : Type 0
QuadVertexSurfacesLift =
    (s : Skeleton) (links : List Link) (quad_rows : List EquationRow) (xs : List ℕ) → IsSkeleton s → HasSphereAndDiscLinks s links → AreEquations Quad s.rows quad_rows
    → IsVertexSurfaceBy s Quad quad_rows xs → (ys : List ℕ) × IsOneVertexSurfaceOver s xs ys

-- a standard vector is a vertex surface if and only if it is one in octagon coordinates, with no octagon
abbrev pub StandardAreInOctagons : Type 0
StandardAreInOctagons =
    (s : Skeleton) (ys : List ℕ) → IsSkeleton s → length ys ≡ columns Standard (length s.rows) → IsVertexSurfaceOf s Standard ys ↔ IsVertexSurfaceOf s Octagon (in_octagons (length s.rows) ys)

-- and these are all octagon vertex surfaces with no octagon
abbrev pub WithoutOctagonsAreStandard : Type 0
WithoutOctagonsAreStandard =
    (s : Skeleton) (xs : List ℕ) → IsSkeleton s
    → (IsVertexSurfaceOf s Octagon xs × (has_no_octagon xs ≡ true)) ↔ ((ys : List ℕ) × IsVertexSurfaceOf s Standard ys × (in_octagons (length s.rows) ys ≡ xs))

-- a vector has the same Euler characteristic in both
abbrev pub CharacteristicsAgree : Type 0
CharacteristicsAgree =
    (s : Skeleton) (ys : List ℕ) → IsSkeleton s → length ys ≡ columns Standard (length s.rows) → characteristic s Octagon (in_octagons (length s.rows) ys) ≡ characteristic s Standard ys

-- Theorem: the standard list contains the lifts of the quad list
abbrev pub ListedLiftsAreListed : Type 0
ListedLiftsAreListed =
    (s : Skeleton) (quad_rows : List EquationRow) (quads standard : List (List ℕ)) (xs lift : List ℕ) → IsSkeleton s → AreEquations Quad s.rows quad_rows
    → IsSurfaceListBy s Quad quad_rows quads → IsSurfaceListOf s Standard standard → Contains quads xs → IsLiftOf s xs lift → Contains standard lift

-- where all links are spheres or discs, each of the quad list has one of the standard list over it
abbrev pub ListedQuadsLift : Type 0
ListedQuadsLift =
    (s : Skeleton) (links : List Link) (quad_rows : List EquationRow) (quads standard : List (List ℕ)) → IsSkeleton s → HasSphereAndDiscLinks s links → AreEquations Quad s.rows quad_rows
    → IsSurfaceListBy s Quad quad_rows quads → IsSurfaceListOf s Standard standard → All (λ xs. (ys : List ℕ) × Contains standard ys × IsOneVertexSurfaceOver s xs ys) quads

-- Theorem: the standard and the octagon list contain the vertex links
abbrev pub LinksAreListed : Type 0
LinksAreListed =
    (s : Skeleton) (coords : Coords) (list : List (List ℕ)) (c : ℕ) → IsSkeleton s → HasTriangles coords → IsSurfaceListOf s coords list → c < s.vertices.count
    → Contains list (link_of s coords c)

-- the vector has a triangle around a vertex of class c
abbrev pub HasTriangleAt : Skeleton → Coords → ℕ → List ℕ → Type 0
HasTriangleAt s coords c ys =
    (i : ℕ) × (i < 4 * length s.rows) × (slice_index s.vertices.classes i ≡ c) × (slice_index ys (tri_column coords (i / 4) (i % 4)) ≢ 0)

-- of the surfaces of triangles alone, the list contains exactly one with a triangle around a vertex of class c: its
-- link
pub record HasOneListedLink (s : Skeleton) (coords : Coords) (list : List (List ℕ)) (c : ℕ) : Type 0 where
  pub listed : Contains list (link_of s coords c)
  pub linking : is_linking coords (link_of s coords c) ≡ true
  pub there : HasTriangleAt s coords c (link_of s coords c)
  pub only : (ys : List ℕ) → Contains list ys → is_linking coords ys ≡ true → HasTriangleAt s coords c ys → ys ≡ link_of s coords c

-- Theorem: in standard and octagon coordinates the list contains exactly one surface of triangles alone with a triangle
-- around a vertex of a given class: the link of the class
abbrev pub OneListedLinkEach : Type 0
OneListedLinkEach =
    (s : Skeleton) (coords : Coords) (list : List (List ℕ)) (c : ℕ) → IsSkeleton s → HasTriangles coords → IsSurfaceListOf s coords list → c < s.vertices.count
    → HasOneListedLink s coords list c

-- Theorem: in standard and octagon coordinates the number of listed surfaces of triangles alone is the number of vertex
-- classes
abbrev pub ListedLinksAreCounted : Type 0
ListedLinksAreCounted =
    (s : Skeleton) (coords : Coords) (list : List (List ℕ)) → IsSkeleton s → HasTriangles coords → IsSurfaceListOf s coords list
    → length (filter (is_linking coords) list) ≡ s.vertices.count

-- so, where all links are spheres or discs, the standard list is at least as long as the quad list and that of the
-- vertices together
abbrev pub StandardListIsLong : Type 0
StandardListIsLong =
    (s : Skeleton) (links : List Link) (quad_rows : List EquationRow) (quads standard : List (List ℕ)) → IsSkeleton s → HasSphereAndDiscLinks s links → AreEquations Quad s.rows quad_rows
    → IsSurfaceListBy s Quad quad_rows quads → IsSurfaceListOf s Standard standard → length quads + s.vertices.count ≤ length standard

-- the standard list is the part of the octagon list without octagons, in the same order
abbrev pub ListsAgree : Type 0
ListsAgree =
    (s : Skeleton) (standard octagon : List (List ℕ)) → IsSkeleton s → IsSurfaceListOf s Standard standard → IsSurfaceListOf s Octagon octagon
    → map (in_octagons (length s.rows)) standard ≡ filter has_no_octagon octagon

-- a vertex surface is a vertex link or canonical, in standard and in octagon coordinates
abbrev pub VertexSurfacesAreLinksOrCanonical : Type 0
VertexSurfacesAreLinksOrCanonical =
    (s : Skeleton) (coords : Coords) (ys : List ℕ) → IsSkeleton s → HasTriangles coords → IsVertexSurfaceOf s coords ys → IsVertexLink s coords ys ⊎ IsCanonical s coords ys

-- those of triangles alone are the links
abbrev pub LinkingAreLinks : Type 0
LinkingAreLinks =
    (s : Skeleton) (coords : Coords) (ys : List ℕ) → IsSkeleton s → HasTriangles coords → IsVertexSurfaceOf s coords ys → (is_linking coords ys ≡ true) ↔ IsVertexLink s coords ys

-- the vector is the lift of its quads, and these are an admissible primitive solution of the quad equations
pub record IsLiftOfItsQuads (s : Skeleton) (quad_rows : List EquationRow) (ys : List ℕ) : Type 0 where
  pub is_lift : IsLiftOf s (quads_of s ys) ys
  pub solves : IsSolution (columns Quad (length s.rows)) quad_rows (quads_of s ys)
  pub admissible : IsAdmissible (clash_list Quad (length s.rows)) (quads_of s ys)
  pub primitive : IsPrimitive (quads_of s ys)

-- so a standard vertex surface is a vertex link or the lift of its quads
abbrev pub VertexSurfacesAreLinksOrLifts : Type 0
VertexSurfacesAreLinksOrLifts =
    (s : Skeleton) (quad_rows : List EquationRow) (ys : List ℕ) → IsSkeleton s → AreEquations Quad s.rows quad_rows → IsVertexSurfaceOf s Standard ys
    → IsVertexLink s Standard ys ⊎ IsLiftOfItsQuads s quad_rows ys

-- Theorem: some multiple of the quads of a surface is a sum of listed quad vertex surfaces
abbrev pub QuadsAreSums : Type 0
QuadsAreSums =
    (s : Skeleton) (quad_rows : List EquationRow) (quads : List (List ℕ)) (ys : List ℕ) → IsSkeleton s → AreEquations Quad s.rows quad_rows → IsSurfaceListBy s Quad quad_rows quads
    → IsSurface s.rows Standard ys → (limit times : ℕ) × (terms : List Term) × IsSumOfRays quads limit (quads_of s ys) times terms

-- Theorem: the quad list contains those of a canonical vertex surface if and only if such a sum has one term
abbrev pub OneTermIsListed : Type 0
OneTermIsListed =
    (s : Skeleton) (quad_rows : List EquationRow) (quads : List (List ℕ)) (ys : List ℕ) (limit times : ℕ) (terms : List Term) → IsSkeleton s → AreEquations Quad s.rows quad_rows
    → IsSurfaceListBy s Quad quad_rows quads → IsVertexSurfaceOf s Standard ys → IsCanonical s Standard ys → IsSumOfRays quads limit (quads_of s ys) times terms
    → (length terms ≡ 1) ↔ Contains quads (quads_of s ys)
