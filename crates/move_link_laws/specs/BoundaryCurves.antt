-- The boundary curves of the link of a vertex class: its boundary arcs, which of them meet, and the curves that they
-- form.
use Rattle.std.specs.Prelude.{◌≡◌, ◌≢◌, ◌↔◌, ℕ, ◌<◌, List, [], ◌∷◌, length, None, IsTrue, slice_index}
use Rattle.table_definitions.specs.Table.{Row, glue}
use Rattle.table_definitions.specs.Places.{Place, IsJoined}
use Rattle.skeleton_definitions.specs.Links.{vertex_number}
use Rattle.skeleton_definitions.specs.Skeleton.{Skeleton, IsSkeleton}
use Rattle.skeleton_definitions.specs.declared.Link.{Link}
use Rattle.surface_quad_lift_laws.specs.Laws.{HasLink}

-- a side of the link's triangle at a vertex of a tetrahedron: the one that lies in this face
pub record LinkSide : Type 0 where
  pub tet : ℕ
  pub vertex : ℕ
  pub face : ℕ

-- a boundary arc of the link of vertex class c: a side, in a boundary face, of one of its triangles
pub record IsBoundaryArc (s : Skeleton) (c : ℕ) (a : LinkSide) : Type 0 where
  pub in_range : a.tet < length s.rows
  pub is_vertex : a.vertex < 4
  pub is_face : a.face < 4
  pub off_vertex : a.vertex ≢ a.face
  pub of_class : slice_index s.vertices.classes (vertex_number a.tet a.vertex) ≡ c
  pub in_boundary : glue s.rows (record { tet = a.tet; face = a.face }) ≡ None

-- an end of arc a: the corner of its triangle on the edge to a further vertex of its face, as a directed place
pub record IsEndOf (a : LinkSide) (p : Place) : Type 0 where
  pub further : ℕ
  pub is_vertex : further < 4
  pub off_vertex : further ≢ a.vertex
  pub in_face : further ≢ a.face
  pub is : p ≡ record { tet = a.tet; vertices = a.vertex ∷ further ∷ [] }

-- two arcs meet: a chain joins an end of the one to an end of the other, so that these are one vertex of the link
pub record ArcsMeet (rows : List Row) (a b : LinkSide) : Type 0 where
  pub end : Place
  pub other_end : Place
  pub of_one : IsEndOf a end
  pub of_other : IsEndOf b other_end
  pub joined : IsJoined rows end other_end

-- from arc a by way of boundary arcs of the link of class c, each of which meets the one before, to arc b, the last
abbrev pub LeadsByArcs : Skeleton → ℕ → LinkSide → List LinkSide → LinkSide → Type 0
LeadsByArcs s c a [] b = a ≡ b
LeadsByArcs s c a (next ∷ arcs) b = IsBoundaryArc s c next × ArcsMeet s.rows a next × LeadsByArcs s c next arcs b

-- two boundary arcs of the link of class c are on one curve: a chain of meeting arcs leads from one to the other
abbrev pub AreOnOneCurve : Skeleton → ℕ → LinkSide → LinkSide → Type 0
AreOnOneCurve s c a b = (arcs : List LinkSide) × LeadsByArcs s c a arcs b

-- the link of class c has n boundary curves: there are arcs 0 to n - 1, no two of them on one curve, and each boundary
-- arc is on a curve with one of them
pub record HasBoundaryCurves (s : Skeleton) (c n : ℕ) : Type 0 where
  pub arc : ℕ → LinkSide
  pub are_arcs : (i : ℕ) → i < n → IsBoundaryArc s c (arc i)
  pub different : (i j : ℕ) → i < j → j < n → AreOnOneCurve s c (arc i) (arc j) → ⊥
  pub all : (a : LinkSide) → IsBoundaryArc s c a → (i : ℕ) × (i < n) × AreOnOneCurve s c (arc i) a

-- each link has a number of boundary curves, and only one
abbrev pub SomeBoundaryCurves : Type 0
SomeBoundaryCurves = (s : Skeleton) (c : ℕ) → IsSkeleton s → (n : ℕ) × HasBoundaryCurves s c n

abbrev pub BoundaryCurvesAgree : Type 0
BoundaryCurvesAgree = (s : Skeleton) (c n m : ℕ) → IsSkeleton s → HasBoundaryCurves s c n → HasBoundaryCurves s c m → n ≡ m

-- a link is closed if and only if it has no boundary curve
abbrev pub ClosedWithoutCurves : Type 0
ClosedWithoutCurves = (s : Skeleton) (c : ℕ) (link : Link) → IsSkeleton s → HasLink s c link → IsTrue link.closed ↔ HasBoundaryCurves s c 0
