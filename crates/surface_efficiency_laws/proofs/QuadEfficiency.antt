-- The listed quad vertex surfaces decide 0-efficiency by their lifts.
use Rattle.std.proofs.Common.{ℕ, ◌↔◌, List, length, inl, inr, Contains}
use Rattle.std.proofs.lemmas.List.Elements.{All-contains}
use Rattle.cone_definitions.specs.Rows.{Row as EquationRow}
use Rattle.cone_definitions.proofs.Unions.{ray_listed}
use Rattle.skeleton_definitions.specs.Skeleton.{Skeleton, IsSkeleton}
use Rattle.skeleton_definitions.specs.declared.Link.{Link}
use Rattle.surface_definitions.specs.Coordinates.{columns, clash_list}
use Rattle.surface_definitions.specs.declared.Coords.TheVariants.{Standard, Quad}
use Rattle.surface_definitions.specs.QuadEquations.{AreEquations}
use Rattle.surface_laws.specs.LiftLaws.{IsLiftOf}
use Rattle.surface_laws.specs.PieceLaws.{IsSurface}
use Rattle.surface_laws.proofs.LiftLemmas.{lift_solves, quads_admissible}
use Rattle.surface_quad_laws.specs.SolutionLaws.{quads_of}
use Rattle.surface_quad_laws.proofs.QuadClashes.{quads_decide}
use Rattle.surface_quad_laws.proofs.QuadRows.{quads_solve}
use Rattle.surface_quad_laws.specs.LinkLaws.{IsCanonical}
use Rattle.surface_quad_laws.proofs.Canonical.{no_link_is_canonical, canonical_lift, lift_canonical}
use Rattle.surface_quad_lift_laws.specs.Laws.{HasSphereAndDiscLinks}
use Rattle.surface_efficiency_laws.specs.Laws.{IsPositive, IsZeroEfficient, HasPositiveInside}
use Rattle.surface_efficiency_laws.specs.Quads.{HasPositiveLift}
use Rattle.surface_efficiency_laws.proofs.Efficiency.{connected_link_or_canonical, listed_connected, some_list}
use Rattle.surface_efficiency_laws.proofs.Measures.{positive_is, is_positive}
use Rattle.surface_efficiency_laws.proofs.MultipleLifts.{lift_quads}
use Rattle.surface_efficiency_laws.proofs.Positives.{positive_inside}
use Rattle.surface_efficiency_laws.proofs.QuadDescents.{HasRayInside, positive_ray}
use Rattle.surface_agreement_laws.specs.VertexSurfaces.{IsSurfaceListBy, IsVertexSurfaceBy}

module _ (s : Skeleton) (k : IsSkeleton s) (links : List Link) (spheres : HasSphereAndDiscLinks s links) (quad_rows : List EquationRow) (equations : AreEquations Quad s.rows quad_rows)
    (surfaces : List (List ℕ)) (list : IsSurfaceListBy s Quad quad_rows surfaces) where
  abbrev n : ℕ
  n = length s.rows

  pub positive_lift : (x : List ℕ) → IsSurface s.rows Standard x → IsCanonical s Standard x → IsPositive s Standard x → HasPositiveLift s surfaces x
  positive_lift x w canonical positive = record {
    v = found.v;
    listed = ray_listed (columns Quad n) quad_rows (clash_list Quad n) surfaces (quads_of s x) found.v list ((quads_decide n x).0 w.admissible) found.ray found.inside;
    inside = found.inside;
    lift = found.lift;
    is_lift = found.is_lift;
    positive = is_positive s Standard (columns Standard n) found.lift (found.is_lift).width found.positive;
  }
    where
      found : HasRayInside s k links spheres quad_rows equations (quads_of s x)
      found = positive_ray s k links spheres quad_rows equations (quads_of s x) x (quads_solve s.rows x k.table w.solves quad_rows equations) (canonical_lift s k x w.solves canonical)
          (positive_is s Standard (columns Standard n) x w.solves.width positive)

  -- the lift of a listed quad vertex surface is a surface
  lift_surface : (v lift : List ℕ) → Contains surfaces v → IsLiftOf s v lift → IsSurface s.rows Standard lift
  lift_surface v lift c l =
      let vertex = All-contains (IsVertexSurfaceBy s Quad quad_rows) surfaces v list.vertex_surfaces c in
      record {
        table = k.table;
        triangles = tt;
        solves = lift_solves s.rows k.table s.vertices.classes s.vertices.count k.vertices v lift l;
        admissible = quads_admissible n v lift (lift_quads s k v lift vertex.extreme.solution.width l) vertex.admissible;
      }

  pub quad_list_decides : IsZeroEfficient s ↔ ((v lift : List ℕ) → Contains surfaces v → IsLiftOf s v lift → IsPositive s Standard lift → ⊥)
  quad_list_decides = (to, from)
    where
      to : IsZeroEfficient s → (v lift : List ℕ) → Contains surfaces v → IsLiftOf s v lift → IsPositive s Standard lift → ⊥
      to h v lift c l positive =
          let all = some_list s Standard in
          let p : HasPositiveInside s Standard all.0 lift = positive_inside s Standard all.0 lift all.1 (lift_surface v lift c l) (lift_canonical s k v lift l) positive in
          no_link_is_canonical s Standard p.v tt (h p.v (listed_connected s k Standard tt all.0 all.1 p.v p.listed) p.positive) p.canonical

      from : ((v lift : List ℕ) → Contains surfaces v → IsLiftOf s v lift → IsPositive s Standard lift → ⊥) → IsZeroEfficient s
      from h xs connected positive = elim (connected_link_or_canonical s k Standard xs connected) [
        | inl link ↦ link
        | inr canonical ↦ absurd (let p : HasPositiveLift s surfaces xs = positive_lift xs connected.surface canonical positive in h p.v p.lift p.listed p.is_lift p.positive)
      ]
