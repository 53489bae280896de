-- A link inside a vertex surface is the surface; if there is none, the surface is canonical, so it is the lift of its
-- quads.
use Rattle.surface_agreement_laws.proofs.LinkSurfaces.{link_or_canonical, linking_is_link, link_is_linking}
use Rattle.surface_agreement_laws.proofs.LinksOrLifts.{link_or_lift}
use Rattle.surface_agreement_laws.proofs.vertex_surfaces_are_links_or_lifts.Goals as goal

pub returns : goal.returns
returns c = record {
  either = λ s coords ys k h vertex. link_or_canonical s k coords h ys vertex;
  linking = λ s coords ys k h vertex. (linking_is_link s k coords h ys vertex, link_is_linking s k coords h ys);
  lifts = λ s quad_rows ys k equations vertex. link_or_lift s k quad_rows equations ys vertex;
}
