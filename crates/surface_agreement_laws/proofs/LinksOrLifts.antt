-- A standard vertex surface is a vertex link or the lift of its quads.
use Rattle.std.proofs.Common.{ℕ, ◌⊎◌, inl, inr, List, length}
use Rattle.cone_definitions.specs.Rows.{Row as EquationRow}
use Rattle.skeleton_definitions.specs.Skeleton.{Skeleton, IsSkeleton}
use Rattle.surface_definitions.specs.declared.Coords.TheVariants.{Standard, Quad}
use Rattle.surface_definitions.specs.QuadEquations.{AreEquations}
use Rattle.surface_quad_laws.proofs.QuadClashes.{quads_decide}
use Rattle.surface_quad_laws.proofs.QuadRows.{quads_solve}
use Rattle.surface_quad_laws.specs.LinkLaws.{IsCanonical, IsVertexLink}
use Rattle.surface_quad_laws.proofs.Canonical.{canonical_lift}
use Rattle.surface_agreement_laws.specs.VertexSurfaces.{IsVertexSurfaceOf}
use Rattle.surface_agreement_laws.specs.Laws.{IsLiftOfItsQuads}
use Rattle.surface_agreement_laws.proofs.Divisors.{quads_primitive}
use Rattle.surface_agreement_laws.proofs.LinkSurfaces.{link_or_canonical}

module _ (s : Skeleton) (k : IsSkeleton s) (quad_rows : List EquationRow) (equations : AreEquations Quad s.rows quad_rows) (ys : List ℕ) (vertex : IsVertexSurfaceOf s Standard ys) where
  pub lift_of_its_quads : IsCanonical s Standard ys → IsLiftOfItsQuads s quad_rows ys
  lift_of_its_quads canonical = record {
    is_lift = canonical_lift s k ys (vertex.extreme).solution canonical;
    solves = quads_solve s.rows ys k.table (vertex.extreme).solution quad_rows equations;
    admissible = (quads_decide (length s.rows) ys).0 vertex.admissible;
    primitive = quads_primitive s k ys (vertex.extreme).solution canonical vertex.primitive;
  }

  pub link_or_lift : IsVertexLink s Standard ys ⊎ IsLiftOfItsQuads s quad_rows ys
  link_or_lift = elim (link_or_canonical s k Standard tt ys vertex) [ inl link ↦ inl link | inr canonical ↦ inr (lift_of_its_quads canonical) ]
