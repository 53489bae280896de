-- Octagon solutions by their quads and octagons, as standard ones by their quads (Tollefson; Burton, with octagons).
use Rattle.std.specs.Prelude.{◌≡◌, ℕ, ◌+◌, ◌*◌, ◌<◌, ◌↔◌, List, length, slice_index}
use Rattle.cone_definitions.specs.Rows.{Row as EquationRow, IsSolution}
use Rattle.cone_definitions.specs.Surfaces.{IsAdmissible}
use Rattle.skeleton_definitions.specs.Skeleton.{Skeleton, IsSkeleton}
use Rattle.skeleton_definitions.specs.declared.Link.{Link}
use Rattle.surface_definitions.specs.Coordinates.{columns, clash_list}
use Rattle.surface_definitions.specs.declared.Coords.TheVariants.{Quad, Octagon}
use Rattle.surface_definitions.specs.Equations.{matching_rows}
use Rattle.surface_definitions.specs.QuadEquations.{AreEquations}
use Rattle.surface_laws.specs.LiftLaws.{IsLiftOf}
use Rattle.surface_laws.specs.PieceLaws.{IsSurface}
use Rattle.surface_quad_laws.specs.LinkLaws.{links_sum, IsCanonical}
use Rattle.surface_quad_laws.specs.SolutionLaws.{IsStandardSolution}
use Rattle.surface_quad_lift_laws.specs.Laws.{HasSphereAndDiscLinks}
use Rattle.surface_octagon_laws.specs.QuadOctagons.{quads_and_octagons, quads_for_octagons, HasQuadsForOctagons, SolvesQuadEquations, IsAdmissibleQuadOctagon}

abbrev pub IsOctagonSolution : Skeleton → List ℕ → Type 0
IsOctagonSolution s ys = IsSolution (columns Octagon (length s.rows)) (matching_rows Octagon s.rows) ys

-- a vector solves the octagon equations if and only if it solves the standard ones, with two quads in place of each
-- octagon
abbrev pub OctagonsMatchAsQuads : Type 0
OctagonsMatchAsQuads =
    (s : Skeleton) (ys zs : List ℕ) → IsSkeleton s → length ys ≡ columns Octagon (length s.rows) → HasQuadsForOctagons (length s.rows) ys zs
    → IsOctagonSolution s ys ↔ IsStandardSolution s zs

-- the quads and octagons of an octagon solution solve the quad equations
abbrev pub QuadsAndOctagonsSolve : Type 0
QuadsAndOctagonsSolve =
    (s : Skeleton) (quad_rows : List EquationRow) (ys : List ℕ) → IsSkeleton s → AreEquations Quad s.rows quad_rows → IsOctagonSolution s ys
    → SolvesQuadEquations (length s.rows) quad_rows (quads_and_octagons (length s.rows) ys)

-- they are admissible if and only if the vector is
abbrev pub QuadsAndOctagonsDecideAdmissibility : Type 0
QuadsAndOctagonsDecideAdmissibility =
    (n : ℕ) (ys : List ℕ) → IsAdmissible (clash_list Octagon n) ys ↔ IsAdmissibleQuadOctagon n (quads_and_octagons n ys)

-- the vector is the sum of a canonical solution and a combination of vertex links
pub record IsCanonicalWithLinks (s : Skeleton) (ys canonical : List ℕ) (times : ℕ → ℕ) : Type 0 where
  pub solves : IsOctagonSolution s canonical
  pub is_canonical : IsCanonical s Octagon canonical
  pub adds : (column : ℕ) → column < columns Octagon (length s.rows) → slice_index ys column ≡ slice_index canonical column + links_sum s Octagon times column

-- each octagon solution has exactly one such form
pub record HasOneCanonicalPart (s : Skeleton) (ys : List ℕ) : Type 0 where
  pub canonical : List ℕ
  pub times : ℕ → ℕ
  pub are : IsCanonicalWithLinks s ys canonical times
  pub one_part : (other : List ℕ) (many : ℕ → ℕ) → IsCanonicalWithLinks s ys other many → other ≡ canonical
  pub one_number : (other : List ℕ) (many : ℕ → ℕ) → IsCanonicalWithLinks s ys other many → (c : ℕ) → c < s.vertices.count → many c ≡ times c

abbrev pub OctagonSolutionsAreCanonicalAndLinks : Type 0
OctagonSolutionsAreCanonicalAndLinks = (s : Skeleton) (ys : List ℕ) → IsSkeleton s → IsOctagonSolution s ys → HasOneCanonicalPart s ys

-- the quad-octagon vector of an octagon solution
abbrev pub IsOfOctagonSolution : Skeleton → List ℕ → Type 0
IsOfOctagonSolution s xs = (ys : List ℕ) × IsOctagonSolution s ys × (quads_and_octagons (length s.rows) ys ≡ xs)

-- these are the quad-octagon vectors that have a lift, each octagon as two quads
abbrev pub LiftedAreOfOctagonSolutions : Type 0
LiftedAreOfOctagonSolutions =
    (s : Skeleton) (xs : List ℕ) → IsSkeleton s → length xs ≡ 6 * length s.rows
    → ((lift : List ℕ) × IsLiftOf s (quads_for_octagons (length s.rows) xs) lift) ↔ IsOfOctagonSolution s xs

-- where all links are spheres or discs, these are the quad-octagon vectors that solve the quad equations
abbrev pub OctagonSolutionsCorrespond : Type 0
OctagonSolutionsCorrespond =
    (s : Skeleton) (links : List Link) (quad_rows : List EquationRow) (xs : List ℕ) → IsSkeleton s → HasSphereAndDiscLinks s links → AreEquations Quad s.rows quad_rows
    → SolvesQuadEquations (length s.rows) quad_rows xs ↔ IsOfOctagonSolution s xs

-- and each is that of exactly one canonical solution
pub record IsOneOctagonSolutionOver (s : Skeleton) (xs ys : List ℕ) : Type 0 where
  pub solves : IsOctagonSolution s ys
  pub is_canonical : IsCanonical s Octagon ys
  pub over : quads_and_octagons (length s.rows) ys ≡ xs
  pub only : (other : List ℕ) → IsOctagonSolution s other → IsCanonical s Octagon other → quads_and_octagons (length s.rows) other ≡ xs → other ≡ ys

abbrev pub OneCanonicalOctagonSolution : Type 0
OneCanonicalOctagonSolution =
    (s : Skeleton) (links : List Link) (quad_rows : List EquationRow) (xs : List ℕ) → IsSkeleton s → HasSphereAndDiscLinks s links → AreEquations Quad s.rows quad_rows
    → SolvesQuadEquations (length s.rows) quad_rows xs → (ys : List ℕ) × IsOneOctagonSolutionOver s xs ys

-- and each admissible one is that of exactly one canonical solution, which is a surface
pub record IsOneOctagonSurfaceOver (s : Skeleton) (xs ys : List ℕ) : Type 0 where
  pub surface : IsSurface s.rows Octagon ys
  pub is_canonical : IsCanonical s Octagon ys
  pub over : quads_and_octagons (length s.rows) ys ≡ xs
  pub only : (other : List ℕ) → IsOctagonSolution s other → IsCanonical s Octagon other → quads_and_octagons (length s.rows) other ≡ xs → other ≡ ys

abbrev pub QuadOctagonSurfacesLift : Type 0
QuadOctagonSurfacesLift =
    (s : Skeleton) (links : List Link) (quad_rows : List EquationRow) (xs : List ℕ) → IsSkeleton s → HasSphereAndDiscLinks s links → AreEquations Quad s.rows quad_rows
    → SolvesQuadEquations (length s.rows) quad_rows xs → IsAdmissibleQuadOctagon (length s.rows) xs → (ys : List ℕ) × IsOneOctagonSurfaceOver s xs ys
