-- A face whose other side is not in a closer tetrahedron.
use Rattle.std.proofs.Common.{sym, ap, subst₂, ◌∙◌}
use Rattle.std.proofs.lemmas.Bool.{false≢true}
use Rattle.table_definitions.specs.Table.{Gluing, Face}
use Rattle.edge_group.specs.Searches.{mark_of}
use Rattle.edge_group.specs.Across.{IsOneLess}
use Rattle.edge_group.proofs.Closer.{closer_none}
use Rattle.edge_group.proofs.tree.closer_face.Goals as goal

pub returns-else-is_one_less : goal.returns-else-is_one_less
returns-else-is_one_less c =
    closer_none c.args.at.table.now c.in-Some.ensures.is_table c.args.distances.now c.args.at.face c.in-Some.glue c.requires (sym c.in-Some.ensures.value)
    (λ less. false≢true (sym c.if-is_one_less.false ∙ c.is_one_less.ensures.1 (subst₂ (λ t u. IsOneLess (mark_of c.args.distances.now t) (mark_of c.args.distances.now u))
    (sym (ap (λ (g : Gluing). g.tet) c.glue-2.view_is)) (sym (ap (λ (x : Face). x.tet) c.face.view_is)) less)))
