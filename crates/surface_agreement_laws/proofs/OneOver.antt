-- A canonical solution is the lift of its quads, so if there are lifts there is one vertex surface over each quad
-- vertex surface.
use Rattle.std.proofs.Common.{ℕ, List, subst}
use Rattle.cone_definitions.specs.Rows.{Row as EquationRow}
use Rattle.skeleton_definitions.specs.Skeleton.{Skeleton, IsSkeleton}
use Rattle.skeleton_definitions.specs.declared.Link.{Link}
use Rattle.surface_definitions.specs.declared.Coords.TheVariants.{Quad}
use Rattle.surface_definitions.specs.QuadEquations.{AreEquations}
use Rattle.surface_laws.specs.LiftLaws.{IsLiftOf}
use Rattle.surface_quad_laws.proofs.Canonical.{canonical_lift, lift_canonical}
use Rattle.surface_quad_lift_laws.specs.Laws.{HasSphereAndDiscLinks, IsOneSurfaceOver}
use Rattle.surface_quad_lift_laws.proofs.Correspondence.{one_surface}
use Rattle.surface_agreement_laws.specs.VertexSurfaces.{IsVertexSurfaceBy}
use Rattle.surface_agreement_laws.specs.Laws.{IsOneVertexSurfaceOver}
use Rattle.surface_agreement_laws.proofs.LiftedSurfaces.{lift_vertex}

module _ (s : Skeleton) (k : IsSkeleton s) where
  pub one_over : (links : List Link) (quad_rows : List EquationRow) (xs : List ℕ) → HasSphereAndDiscLinks s links → AreEquations Quad s.rows quad_rows → IsVertexSurfaceBy s Quad quad_rows xs
      → (ys : List ℕ) × IsOneVertexSurfaceOver s xs ys
  one_over links quad_rows xs kinds equations vertex =
      let l = one_surface s k links kinds quad_rows equations xs (vertex.extreme).solution vertex.admissible in
      let one : IsOneSurfaceOver s xs l.0 = l.1 in (
        l.0,
        record {
          vertex = lift_vertex s k quad_rows equations xs l.0 vertex one.is_lift;
          is_canonical = lift_canonical s k xs l.0 one.is_lift;
          over = one.over;
          only = λ other solution canonical e. one.only other (subst (λ ws. IsLiftOf s ws other) e (canonical_lift s k other solution canonical));
        },
      )
