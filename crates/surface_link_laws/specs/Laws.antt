-- The link of a vertex class, as a surface and as a link: both have the same Euler characteristic.
use Rattle.std.specs.Prelude.{◌≡◌, ℕ, ◌+◌, ◌/◌, ◌%◌, ◌<◌, ◌↔◌, ◌+ℤ◌, pos, true, not, List, [], ◌∷◌, length, None, slice_index}
use Rattle.std.specs.List.{AllPairs, Contains}
use Rattle.table_definitions.specs.Classes.{least}
use Rattle.table_definitions.specs.Places.{ends, IsInvalidEdge}
use Rattle.skeleton_definitions.specs.Links.{vertex_number}
use Rattle.skeleton_definitions.specs.Skeleton.{Skeleton, IsSkeleton, IsFirstInvalid}
use Rattle.skeleton_definitions.specs.declared.Link.{Link}
use Rattle.surface_definitions.specs.declared.Coords.{Coords}
use Rattle.surface_vector_definitions.specs.Components.{Component, AreListedComponents}
use Rattle.surface_vector_definitions.specs.Properties.{AreProperties}
use Rattle.surface_vector_definitions.specs.declared.Properties.{Properties}
use Rattle.surface_laws.specs.MatchingLaws.{HasTriangles}
use Rattle.surface_quad_laws.specs.LinkLaws.{link_of}
use Rattle.surface_quad_lift_laws.specs.Laws.{HasLink}

-- the vertex at which edge i begins, by number
abbrev pub first_end : ℕ → ℕ
first_end i = vertex_number (i / 6) (slice_index (ends (i % 6)) 0)

-- as many arcs as the link has edges, and as many pieces as it has triangles; arcs in the boundary where it is not
-- closed
pub record HasEdgesAndTriangles (link : Link) (p : Properties) : Type 0 where
  pub arcs : p.arcs ≡ link.edges
  pub pieces : p.pieces ≡ link.triangles
  pub boundary : p.boundary ≡ not link.closed

-- so of each vertex class, in standard and octagon coordinates
abbrev pub LinksHaveEdgesAndTriangles : Type 0
LinksHaveEdgesAndTriangles =
    (s : Skeleton) (coords : Coords) (c : ℕ) (link : Link) (p : Properties) → IsSkeleton s → HasTriangles coords → HasLink s c link
    → AreProperties s coords (link_of s coords c) p → HasEdgesAndTriangles link p

-- edge class e is invalid, and has its ends at vertex class c
pub record IsInvalidAt (s : Skeleton) (c e : ℕ) : Type 0 where
  pub in_range : e < s.edges.count
  pub invalid : IsInvalidEdge s.rows (least s.edges.classes e)
  pub at_class : slice_index s.vertices.classes (first_end (least s.edges.classes e)) ≡ c

-- all of these, ascending
pub record AreInvalidEdgesAt (s : Skeleton) (c : ℕ) (edges : List ℕ) : Type 0 where
  pub ascending : AllPairs ◌<◌ edges
  pub each : (e : ℕ) → Contains edges e ↔ IsInvalidAt s c e

-- a point for each vertex of the link, and one more for each invalid edge: the surface meets it in two points, which
-- are one vertex
pub record HasOneMoreForEach (s : Skeleton) (c : ℕ) (link : Link) (p : Properties) : Type 0 where
  pub edges : List ℕ
  pub are : AreInvalidEdgesAt s c edges
  pub points : p.points ≡ link.vertices + length edges
  pub euler : p.euler ≡ link.euler +ℤ pos (length edges)

abbrev pub LinksHaveVertices : Type 0
LinksHaveVertices =
    (s : Skeleton) (coords : Coords) (c : ℕ) (link : Link) (p : Properties) → IsSkeleton s → HasTriangles coords → HasLink s c link
    → AreProperties s coords (link_of s coords c) p → HasOneMoreForEach s c link p

-- so where no edge is invalid the Euler characteristic is that of the link
abbrev pub LinkCharacteristicsAgree : Type 0
LinkCharacteristicsAgree =
    (s : Skeleton) (coords : Coords) (c : ℕ) (link : Link) (p : Properties) → IsSkeleton s → HasTriangles coords → IsFirstInvalid s None → HasLink s c link
    → AreProperties s coords (link_of s coords c) p → (p.points ≡ link.vertices) × (p.euler ≡ link.euler)

-- the surface is one component, two-sided, and orientable if and only if the link is
pub record IsOneComponentOfLink (s : Skeleton) (coords : Coords) (c : ℕ) (link : Link) (listed : List Component) : Type 0 where
  pub component : Component
  pub alone : listed ≡ component ∷ []
  pub whole : component.vector ≡ link_of s coords c
  pub two_sided : component.two_sided ≡ true
  pub orientable : component.orientable ≡ link.orientable

abbrev pub LinksAreOneComponent : Type 0
LinksAreOneComponent =
    (s : Skeleton) (coords : Coords) (c : ℕ) (link : Link) (listed : List Component) → IsSkeleton s → HasTriangles coords → c < s.vertices.count → HasLink s c link
    → AreListedComponents s.rows coords (link_of s coords c) listed → IsOneComponentOfLink s coords c link listed
