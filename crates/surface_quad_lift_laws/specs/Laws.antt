-- If the link of a vertex class is a sphere or a disc, each solution of the quad equations has a lift there (Tollefson
-- 1998).
use Rattle.surface_vector_definitions.specs.declared.LiftFault.TheVariants.{NoLift}
use Rattle.std.specs.Prelude.{◌≡◌, ℕ, ◌*◌, ◌<◌, ◌↔◌, ◌⊎◌, List, length, All, Err}
use Rattle.cone_definitions.specs.Rows.{Row as EquationRow, IsSolution}
use Rattle.cone_definitions.specs.Surfaces.{IsAdmissible}
use Rattle.table_definitions.specs.Classes.{IsNumbering}
use Rattle.skeleton_definitions.specs.Links.{SameDirected, IsLink}
use Rattle.skeleton_definitions.specs.Skeleton.{Skeleton, IsSkeleton, AreLinks}
use Rattle.skeleton_definitions.specs.declared.Link.{Link}
use Rattle.skeleton_definitions.specs.declared.LinkKind.TheVariants.{Sphere, Disc}
use Rattle.surface_definitions.specs.Coordinates.{columns, clash_list}
use Rattle.surface_definitions.specs.declared.Coords.TheVariants.{Standard, Quad}
use Rattle.surface_definitions.specs.QuadEquations.{AreEquations}
use Rattle.surface_vector_definitions.specs.Lifting.{HasLiftAt, IsLiftAnswer}
use Rattle.surface_laws.specs.LiftLaws.{IsLiftOf}
use Rattle.surface_laws.specs.PieceLaws.{IsSurface}
use Rattle.surface_quad_laws.specs.SolutionLaws.{IsStandardSolution, quads_of}

-- the link of class c, by some numbering of the directed edges
pub record HasLink (s : Skeleton) (c : ℕ) (link : Link) : Type 0 where
  pub directions : List ℕ
  pub count : ℕ
  pub numbered : IsNumbering (12 * length s.rows) (SameDirected s.rows) directions count
  pub is_link : IsLink s.rows s.vertices.classes directions c link

-- a sphere or a disc
abbrev pub IsSphereOrDisc : Link → Type 0
IsSphereOrDisc link = (link.kind ≡ Sphere) ⊎ (link.kind ≡ Disc)

abbrev pub QuadSolutionsLift : Type 0
QuadSolutionsLift =
    (s : Skeleton) (c : ℕ) (link : Link) (quad_rows : List EquationRow) (xs : List ℕ) → IsSkeleton s → c < s.vertices.count → HasLink s c link → IsSphereOrDisc link
    → AreEquations Quad s.rows quad_rows → IsSolution (columns Quad (length s.rows)) quad_rows xs → HasLiftAt s xs c

-- the link of each vertex class is a sphere or a disc
pub record HasSphereAndDiscLinks (s : Skeleton) (links : List Link) : Type 0 where
  pub one_each : length links ≡ s.vertices.count
  pub are : AreLinks s (length links) links
  pub kinds : All IsSphereOrDisc links

-- then the solutions of the quad equations are the quads of the standard solutions
abbrev pub SolutionsCorrespond : Type 0
SolutionsCorrespond =
    (s : Skeleton) (links : List Link) (quad_rows : List EquationRow) (xs : List ℕ) → IsSkeleton s → HasSphereAndDiscLinks s links → AreEquations Quad s.rows quad_rows
    → IsSolution (columns Quad (length s.rows)) quad_rows xs ↔ ((ys : List ℕ) × IsStandardSolution s ys × (quads_of s ys ≡ xs))

-- and each has exactly one lift: one standard solution with these quads in which each class has a vertex with no
-- triangle
pub record IsOneSolutionOver (s : Skeleton) (xs lift : List ℕ) : Type 0 where
  pub is_lift : IsLiftOf s xs lift
  pub solves : IsStandardSolution s lift
  pub over : quads_of s lift ≡ xs
  pub only : (other : List ℕ) → IsLiftOf s xs other → other ≡ lift

abbrev pub SolutionsHaveOneLift : Type 0
SolutionsHaveOneLift =
    (s : Skeleton) (links : List Link) (quad_rows : List EquationRow) (xs : List ℕ) → IsSkeleton s → HasSphereAndDiscLinks s links → AreEquations Quad s.rows quad_rows
    → IsSolution (columns Quad (length s.rows)) quad_rows xs → (lift : List ℕ) × IsOneSolutionOver s xs lift

-- and each admissible one is the quads of exactly one surface in which each class has a vertex with no triangle
pub record IsOneSurfaceOver (s : Skeleton) (xs lift : List ℕ) : Type 0 where
  pub is_lift : IsLiftOf s xs lift
  pub surface : IsSurface s.rows Standard lift
  pub over : quads_of s lift ≡ xs
  pub only : (other : List ℕ) → IsLiftOf s xs other → other ≡ lift

abbrev pub QuadSurfacesLift : Type 0
QuadSurfacesLift =
    (s : Skeleton) (links : List Link) (quad_rows : List EquationRow) (xs : List ℕ) → IsSkeleton s → HasSphereAndDiscLinks s links → AreEquations Quad s.rows quad_rows
    → IsSolution (columns Quad (length s.rows)) quad_rows xs → IsAdmissible (clash_list Quad (length s.rows)) xs → (lift : List ℕ) × IsOneSurfaceOver s xs lift

-- Theorem: so none is refused with `no-lift`
abbrev pub NoneWithoutLift : Type 0
NoneWithoutLift =
    (max : ℕ) (s : Skeleton) (links : List Link) (quad_rows : List EquationRow) (xs : List ℕ) (c : ℕ) → IsSkeleton s → HasSphereAndDiscLinks s links → AreEquations Quad s.rows quad_rows
    → IsSolution (columns Quad (length s.rows)) quad_rows xs → IsLiftAnswer max s xs (Err (NoLift c)) → ⊥
