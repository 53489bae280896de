-- Standard solutions with the same quads: they differ by vertex links, and one of them is the lift.
use Rattle.std.specs.Prelude.{◌≡◌, ℕ, ◌+◌, ◌*◌, ◌<◌, ℤ, pos, ◌-ℤ◌, List, length, ◌↔◌, slice_index}
use Rattle.cone_definitions.specs.Rows.{Row as EquationRow, IsSolution}
use Rattle.skeleton_definitions.specs.Skeleton.{Skeleton, IsSkeleton}
use Rattle.surface_definitions.specs.Coordinates.{columns}
use Rattle.surface_definitions.specs.declared.Coords.TheVariants.{Standard, Quad}
use Rattle.surface_definitions.specs.Equations.{matching_rows}
use Rattle.surface_definitions.specs.QuadEquations.{AreEquations}
use Rattle.surface_definitions.specs.Lift.{projected}
use Rattle.surface_laws.specs.LiftLaws.{IsLiftOf, triangle_at}
use Rattle.surface_quad_laws.specs.LinkLaws.{links_sum, IsCanonical}

abbrev pub IsStandardSolution : Skeleton → List ℕ → Type 0
IsStandardSolution s ys = IsSolution (columns Standard (length s.rows)) (matching_rows Standard s.rows) ys

-- the quads of a standard vector of the table
abbrev pub quads_of : Skeleton → List ℕ → List ℕ
quads_of s ys = projected (length s.rows) ys

-- the triangles of two solutions with the same quads differ by one integer at all members of a vertex class
abbrev pub TrianglesDifferByClass : Type 0
TrianglesDifferByClass =
    (s : Skeleton) (ys zs : List ℕ) (c : ℕ) → IsSkeleton s → IsStandardSolution s ys → IsStandardSolution s zs → quads_of s ys ≡ quads_of s zs → c < s.vertices.count
    → (d : ℤ) × ((i : ℕ) → i < 4 * length s.rows → slice_index s.vertices.classes i ≡ c → pos (triangle_at ys i) -ℤ pos (triangle_at zs i) ≡ d)

-- the entry in a column of a vector plus a combination of vertex links
abbrev pub with_links : Skeleton → (ℕ → ℕ) → List ℕ → ℕ → ℕ
with_links s times ys column = slice_index ys column + links_sum s Standard times column

-- the vector is a lift of its quads plus a combination of vertex links
pub record IsLiftWithLinks (s : Skeleton) (ys lift : List ℕ) (times : ℕ → ℕ) : Type 0 where
  pub is_lift : IsLiftOf s (quads_of s ys) lift
  pub adds : (column : ℕ) → column < columns Standard (length s.rows) → slice_index ys column ≡ with_links s times lift column

-- a standard solution has exactly one such form
pub record HasOneLiftWithLinks (s : Skeleton) (ys : List ℕ) : Type 0 where
  pub lift : List ℕ
  pub times : ℕ → ℕ
  pub are : IsLiftWithLinks s ys lift times
  pub one_lift : (other : List ℕ) (many : ℕ → ℕ) → IsLiftWithLinks s ys other many → other ≡ lift
  pub one_number : (other : List ℕ) (many : ℕ → ℕ) → IsLiftWithLinks s ys other many → (c : ℕ) → c < s.vertices.count → many c ≡ times c

abbrev pub SolutionsAreLiftsAndLinks : Type 0
SolutionsAreLiftsAndLinks = (s : Skeleton) (ys : List ℕ) → IsSkeleton s → IsStandardSolution s ys → HasOneLiftWithLinks s ys

-- so its quads have a lift
abbrev pub QuadsHaveLifts : Type 0
QuadsHaveLifts = (s : Skeleton) (ys : List ℕ) → IsSkeleton s → IsStandardSolution s ys → (lift : List ℕ) × IsLiftOf s (quads_of s ys) lift

-- and the solutions that are the lifts of their quads are the canonical ones
abbrev pub CanonicalAreLifts : Type 0
CanonicalAreLifts = (s : Skeleton) (ys : List ℕ) → IsSkeleton s → IsStandardSolution s ys → IsCanonical s Standard ys ↔ IsLiftOf s (quads_of s ys) ys

-- Theorem: two solutions with the same quads are equal after a combination of vertex links is added to each
abbrev pub SameQuadsDifferByLinks : Type 0
SameQuadsDifferByLinks =
    (s : Skeleton) (ys zs : List ℕ) → IsSkeleton s → IsStandardSolution s ys → IsStandardSolution s zs → quads_of s ys ≡ quads_of s zs
    → (many limited : ℕ → ℕ) × ((column : ℕ) → column < columns Standard (length s.rows) → with_links s many ys column ≡ with_links s limited zs column)

-- the quad vectors that have a lift are the quads of the standard solutions
abbrev pub LiftedAreQuads : Type 0
LiftedAreQuads =
    (s : Skeleton) (xs : List ℕ) → IsSkeleton s → length xs ≡ columns Quad (length s.rows)
    → ((lift : List ℕ) × IsLiftOf s xs lift) ↔ ((ys : List ℕ) × IsStandardSolution s ys × (quads_of s ys ≡ xs))

-- so these solve the quad equations
abbrev pub LiftedSolveQuads : Type 0
LiftedSolveQuads =
    (s : Skeleton) (quad_rows : List EquationRow) (xs lift : List ℕ) → IsSkeleton s → AreEquations Quad s.rows quad_rows → length xs ≡ columns Quad (length s.rows)
    → IsLiftOf s xs lift → IsSolution (columns Quad (length s.rows)) quad_rows xs
