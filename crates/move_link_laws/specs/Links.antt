-- A legal move keeps the links of vertex classes.
use Rattle.std.specs.Prelude.{◌≡◌, ◌↔◌, ℕ, ◌<◌, false, List, length, slice_index}
use Rattle.table_definitions.specs.Lists.{has, rank_without}
use Rattle.table_definitions.specs.Table.{Row}
use Rattle.skeleton_definitions.specs.Links.{vertex_number}
use Rattle.skeleton_definitions.specs.Skeleton.{Skeleton, IsSkeleton}
use Rattle.skeleton_definitions.specs.declared.Link.{Link}
use Rattle.move_definitions.specs.Moves.{Move, IsMoved, old_tets, inverse_move}
use Rattle.surface_quad_lift_laws.specs.Laws.{HasLink}
use Rattle.move_link_laws.specs.BoundaryCurves.{HasBoundaryCurves}
use Rattle.move_link_laws.specs.Certified.{IsSphere}

-- c is the class of the core of a 4-1, which the move takes away
abbrev pub IsTakenAway : Skeleton → Move → ℕ → Type 0
IsTakenAway s m c = (length m.core ≡ 1) × (slice_index s.vertices.classes (vertex_number m.tet (slice_index m.core 0)) ≡ c)

-- a vertex class that a move leaves
abbrev pub IsLeft : Skeleton → Move → ℕ → Type 0
IsLeft s m c = (c < s.vertices.count) × (IsTakenAway s m c → ⊥)

-- two links have one Euler characteristic, are both closed or not and both orientable or not, and so are of one kind
pub record AreAlike (one other : Link) : Type 0 where
  pub euler : one.euler ≡ other.euler
  pub closed : one.closed ≡ other.closed
  pub orientable : one.orientable ≡ other.orientable
  pub kind : one.kind ≡ other.kind

-- the vertex classes that the move leaves and those that its inverse leaves correspond one to one: the class of a
-- vertex of a tetrahedron that stays to that of the same vertex, and each to one whose link is alike and has as many
-- boundary curves
pub record LinksCorrespond (s : Skeleton) (m back : Move) (s' : Skeleton) : Type 0 where
  pub to : ℕ → ℕ
  pub left : (c : ℕ) → IsLeft s m c → IsLeft s' back (to c)
  pub once : (c d : ℕ) → IsLeft s m c → IsLeft s m d → to c ≡ to d → c ≡ d
  pub onto : (c' : ℕ) → IsLeft s' back c' → (c : ℕ) × IsLeft s m c × (to c ≡ c')
  pub stays : (t v : ℕ) → t < length s.rows → has (old_tets s.rows m) t ≡ false → v < 4
      → to (slice_index s.vertices.classes (vertex_number t v)) ≡ slice_index s'.vertices.classes (vertex_number (rank_without (old_tets s.rows m) t) v)
  pub alike : (c : ℕ) (one other : Link) → IsLeft s m c → HasLink s c one → HasLink s' (to c) other → AreAlike one other
  pub curves : (c n : ℕ) → IsLeft s m c → HasBoundaryCurves s c n ↔ HasBoundaryCurves s' (to c) n

abbrev pub MovesKeepLinks : Type 0
MovesKeepLinks =
    (s : Skeleton) (m : Move) (s' : Skeleton) → IsSkeleton s → IsSkeleton s' → IsMoved s.rows m s'.rows → LinksCorrespond s m (inverse_move (length s.rows) m) s'

-- the link of a class that is taken away is a sphere, and so is that of a class that is put in, which the inverse takes
-- away
abbrev pub TakenAwayAreSpheres : Type 0
TakenAwayAreSpheres =
    (s : Skeleton) (m : Move) (new : List Row) (c : ℕ) (link : Link) → IsSkeleton s → IsMoved s.rows m new → IsTakenAway s m c → HasLink s c link → IsSphere link

abbrev pub PutInAreSpheres : Type 0
PutInAreSpheres =
    (s : Skeleton) (m : Move) (s' : Skeleton) (c : ℕ) (link : Link) → IsSkeleton s → IsSkeleton s' → IsMoved s.rows m s'.rows
    → IsTakenAway s' (inverse_move (length s.rows) m) c → HasLink s' c link → IsSphere link
