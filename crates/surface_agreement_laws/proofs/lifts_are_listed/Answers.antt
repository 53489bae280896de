-- They are vertex surfaces, and the list has all.
use Rattle.surface_agreement_laws.proofs.LiftedSurfaces.{lift_vertex}
use Rattle.surface_agreement_laws.proofs.LinkSurfaces.{link_vertex}
use Rattle.surface_agreement_laws.proofs.Numbers.{at_least}
use Rattle.surface_agreement_laws.proofs.OneOver.{one_over}
use Rattle.std.specs.List.{slice_index_or}
use Rattle.std.proofs.lemmas.List.Elements.{All-contains}
use Rattle.surface_definitions.specs.declared.Coords.TheVariants.{Quad}
use Rattle.surface_quad_laws.specs.LinkLaws.{link_of}
use Rattle.surface_agreement_laws.proofs.lifts_are_listed.Goals as goal
use Rattle.surface_agreement_laws.specs.VertexSurfaces.{IsVertexSurfaceBy}

pub returns : goal.returns
returns c = record {
  lifts = λ s quad_rows quads standard xs lift k equations one other listed l.
      other.complete lift (lift_vertex s k quad_rows equations xs lift (All-contains (IsVertexSurfaceBy s Quad quad_rows) quads xs one.vertex_surfaces listed) l);
  one_each = λ s links quad_rows quads standard k kinds equations one other i d l.
      let over = one_over s k links quad_rows (slice_index_or quads i d) kinds equations (one.vertex_surfaces i d l) in (over.0, other.complete over.0 (over.1).vertex, over.1);
  links = λ s coords list class k h one lc. one.complete (link_of s coords class) (link_vertex s k coords h class lc);
  number = λ s links quad_rows quads standard k kinds equations one other. at_least s k standard other links kinds quad_rows equations quads one;
}
