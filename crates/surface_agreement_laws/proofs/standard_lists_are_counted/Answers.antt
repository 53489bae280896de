-- Lifts with quads in the quad list are as many as these, and are no vertex links.
use Rattle.surface_agreement_laws.proofs.KindCounts.{others_are, counted_kinds}
use Rattle.surface_agreement_laws.proofs.standard_lists_are_counted.Goals as goal

pub returns : goal.returns
returns c = record {
  kinds = λ s quad_rows quads standard ys k equations one all. others_are s k quad_rows equations quads standard one all ys;
  number = λ s links quad_rows quads standard k spheres equations one all. counted_kinds s k quad_rows equations quads standard one all links spheres;
}
