-- Laws of lifts.
use Rattle.std.specs.Prelude.{◌≡◌, ℕ, ◌+◌, ◌<◌, ◌↔◌, ◌⊎◌, List, length, Some, Result, slice_index, ◌/◌, ◌%◌}
use Rattle.cone_definitions.specs.Rows.{IsSolution}
use Rattle.cone_definitions.specs.Surfaces.{IsAdmissible}
use Rattle.table_definitions.specs.Permutation.{image}
use Rattle.table_definitions.specs.Table.{Gluing, Face, glue}
use Rattle.skeleton_definitions.specs.Links.{vertex_number}
use Rattle.skeleton_definitions.specs.Skeleton.{Skeleton, IsSkeleton}
use Rattle.surface_definitions.specs.Coordinates.{columns, clash_list, quad_column, keeping, tri_column}
use Rattle.surface_definitions.specs.declared.Coords.TheVariants.{Standard, Quad}
use Rattle.surface_definitions.specs.Equations.{matching_rows}
use Rattle.surface_definitions.specs.Lift.{projected, IsLift}
use Rattle.surface_vector_definitions.specs.Lifting.{HasLiftAt, IsLiftAnswer}
use Rattle.surface_vector_definitions.specs.declared.LiftFault.{LiftFault}

-- the triangles around vertex i
abbrev pub triangle_at : List ℕ → ℕ → ℕ
triangle_at ys i = slice_index ys (tri_column Standard (i / 4) (i % 4))

-- ys is the lift of the quad vector xs of a table
abbrev pub IsLiftOf : Skeleton → List ℕ → List ℕ → Type 0
IsLiftOf s xs ys = IsLift s.rows s.vertices.classes s.vertices.count xs ys

abbrev pub AtMostOneLift : Type 0
AtMostOneLift = (s : Skeleton) (xs ys zs : List ℕ) → IsSkeleton s → IsLiftOf s xs ys → IsLiftOf s xs zs → ys ≡ zs

-- a lift is a solution of the standard equations, admissible where the quad vector is, and has its quads
pub record IsSurfaceOver (s : Skeleton) (xs ys : List ℕ) : Type 0 where
  pub solves : IsSolution (columns Standard (length s.rows)) (matching_rows Standard s.rows) ys
  pub admissible : IsAdmissible (clash_list Quad (length s.rows)) xs → IsAdmissible (clash_list Standard (length s.rows)) ys
  pub projects : projected (length s.rows) ys ≡ xs

abbrev pub LiftsAreSurfaces : Type 0
LiftsAreSurfaces = (s : Skeleton) (xs ys : List ℕ) → IsSkeleton s → length xs ≡ columns Quad (length s.rows) → IsLiftOf s xs ys → IsSurfaceOver s xs ys

abbrev pub OneLiftAnswer : Type 0
OneLiftAnswer =
    (max : ℕ) (s : Skeleton) (xs : List ℕ) (a b : Result (List ℕ) LiftFault) → IsSkeleton s → IsLiftAnswer max s xs a → IsLiftAnswer max s xs b → a ≡ b

-- heights of the vertices of class c, by their numbers: across each gluing the height and the quad there add up to the
-- same
abbrev pub AreHeights : Skeleton → List ℕ → ℕ → (ℕ → ℕ) → Type 0
AreHeights s xs c h =
    (x : Face) (g : Gluing) (v : ℕ) → glue s.rows x ≡ Some g → v < 4 → (v ≡ x.face → ⊥) → slice_index s.vertices.classes (vertex_number x.tet v) ≡ c
    → h (vertex_number x.tet v) + slice_index xs (quad_column Quad x.tet (keeping v x.face))
    ≡ h (vertex_number g.tet (image g.perm v)) + slice_index xs (quad_column Quad g.tet (keeping (image g.perm v) (image g.perm x.face)))

-- a class has a lift if and only if it has heights
abbrev pub LiftsAreHeights : Type 0
LiftsAreHeights =
    (s : Skeleton) (xs : List ℕ) (c : ℕ) → IsSkeleton s → length xs ≡ columns Quad (length s.rows) → c < s.vertices.count
    → HasLiftAt s xs c ↔ ((h : ℕ → ℕ) × AreHeights s xs c h)

-- and where each class has a lift there is one of the vector
abbrev pub LiftsJoin : Type 0
LiftsJoin =
    (s : Skeleton) (xs : List ℕ) → IsSkeleton s → length xs ≡ columns Quad (length s.rows) → ((c : ℕ) → c < s.vertices.count → HasLiftAt s xs c)
    → (ys : List ℕ) × IsLiftOf s xs ys

-- at each class there is a lift, or there is none
abbrev pub LiftsAreDecided : Type 0
LiftsAreDecided =
    (s : Skeleton) (xs : List ℕ) (c : ℕ) → IsSkeleton s → length xs ≡ columns Quad (length s.rows) → c < s.vertices.count
    → HasLiftAt s xs c ⊎ (HasLiftAt s xs c → ⊥)

-- Theorem: each quad vector has an answer
abbrev pub LiftAnswersExist : Type 0
LiftAnswersExist =
    (max : ℕ) (s : Skeleton) (xs : List ℕ) → IsSkeleton s → length xs ≡ columns Quad (length s.rows) → (a : Result (List ℕ) LiftFault) × IsLiftAnswer max s xs a
