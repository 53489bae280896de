-- A tetrahedron that has a mark keeps it, and any other is marked.
use Rattle.std.proofs.Common.{◌<◌, refl, sym, ap, subst}
use Rattle.table_definitions.specs.Table.{Gluing}
use Rattle.edge_group.proofs.Grown.{face_passes, face_grows}
use Rattle.edge_group.proofs.distances.cross_face.Goals as goal

pub returns-then-is_some-clause-grown : goal.returns-then-is_some-clause-grown
returns-then-is_some-clause-grown c =
    face_passes c.args.at.table.now c.args.at.face c.in-Some.glue c.glue-2.inside.tet c.args.distance c.args.marks.now c.args.next.now.items c.in-Some.ensures.value (ap (λ (g : Gluing). g.tet) c.glue-2.view_is)
    c.if-is_some.ensures

pub returns-clause-grown : goal.returns-clause-grown
returns-clause-grown c =
    face_grows c.args.at.table.now c.args.at.face c.in-Some.glue c.glue-2.inside.tet c.args.distance c.args.marks.now _ c.args.next.now.items c.push.new.self.items c.in-Some.ensures.value
    (ap (λ (g : Gluing). g.tet) c.glue-2.view_is)
    (subst (λ n. c.in-Some.glue.tet < n) (sym c.requires) (c.in-Some.ensures.is_table.in_range c.args.at.face c.in-Some.glue (sym c.in-Some.ensures.value)))
    c.if-is_some.ensures refl c.in_ok-push.ensures.items
