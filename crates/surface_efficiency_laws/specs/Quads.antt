-- 0-efficiency by quad coordinates: if all vertex links are spheres or discs, the lifts of the listed quad surfaces
-- decide it.
use Rattle.std.specs.Prelude.{ℕ, ◌↔◌, List}
use Rattle.std.specs.List.{Contains}
use Rattle.cone_definitions.specs.Rows.{Row as EquationRow}
use Rattle.cone_definitions.specs.Vectors.{IsInside}
use Rattle.skeleton_definitions.specs.Skeleton.{Skeleton, IsSkeleton}
use Rattle.skeleton_definitions.specs.declared.Link.{Link}
use Rattle.surface_definitions.specs.declared.Coords.TheVariants.{Standard, Quad}
use Rattle.surface_definitions.specs.QuadEquations.{AreEquations}
use Rattle.surface_laws.specs.LiftLaws.{IsLiftOf}
use Rattle.surface_laws.specs.PieceLaws.{IsSurface}
use Rattle.surface_quad_laws.specs.SolutionLaws.{quads_of}
use Rattle.surface_quad_laws.specs.LinkLaws.{IsCanonical}
use Rattle.surface_quad_lift_laws.specs.Laws.{HasSphereAndDiscLinks}
use Rattle.surface_efficiency_laws.specs.Laws.{IsPositive, IsZeroEfficient}
use Rattle.surface_agreement_laws.specs.VertexSurfaces.{IsSurfaceListBy}

-- a listed quad vertex surface whose support lies in that of the quads of x and whose lift has positive Euler
-- characteristic
pub record HasPositiveLift (s : Skeleton) (surfaces : List (List ℕ)) (x : List ℕ) : Type 0 where
  pub v : List ℕ
  pub listed : Contains surfaces v
  pub inside : IsInside v (quads_of s x)
  pub lift : List ℕ
  pub is_lift : IsLiftOf s v lift
  pub positive : IsPositive s Standard lift

-- Theorem: if all vertex links are spheres or discs, HasPositiveLift holds of each canonical surface x of positive
-- Euler characteristic.
abbrev pub PositiveSurfacesHaveLifts : Type 0
PositiveSurfacesHaveLifts =
    (s : Skeleton) (links : List Link) (quad_rows : List EquationRow) (surfaces : List (List ℕ)) (x : List ℕ) → IsSkeleton s → HasSphereAndDiscLinks s links → AreEquations Quad s.rows quad_rows
    → IsSurfaceListBy s Quad quad_rows surfaces → IsSurface s.rows Standard x → IsCanonical s Standard x → IsPositive s Standard x → HasPositiveLift s surfaces x

-- Theorem: if all vertex links are spheres or discs, a table is 0-efficient by its numbers if and only if no listed
-- quad vertex surface has a lift of positive Euler characteristic.
abbrev pub QuadListDecidesEfficiency : Type 0
QuadListDecidesEfficiency =
    (s : Skeleton) (links : List Link) (quad_rows : List EquationRow) (surfaces : List (List ℕ)) → IsSkeleton s → HasSphereAndDiscLinks s links → AreEquations Quad s.rows quad_rows
    → IsSurfaceListBy s Quad quad_rows surfaces → IsZeroEfficient s ↔ ((v lift : List ℕ) → Contains surfaces v → IsLiftOf s v lift → ¬ IsPositive s Standard lift)
