-- Quads that a positive multiple puts on an extreme ray are extreme; a sum of listed ones with one term is a multiple of it.
use Rattle.surface_agreement_laws.proofs.SurfaceKinds.{lift_by_quads, lift_by_ray, listed_kinds}
use Rattle.surface_agreement_laws.proofs.standard_surfaces_are_lifts.Goals as goal

pub returns : goal.returns
returns c = record {
  quads = λ s quad_rows ys k equations vertex. lift_by_quads s k quad_rows equations ys vertex;
  rays = λ s quad_rows ys k equations vertex. lift_by_ray s k quad_rows equations ys vertex;
  listed = listed_kinds;
}
