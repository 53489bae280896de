-- The tetrahedron across the face is one of the table, and the gluing maps different vertices to different ones.
use Rattle.std.proofs.Common.{◌/◌, ◌%◌, sym, ap, ◌∙◌, arith}
use Rattle.table_definitions.specs.Permutation.{image}
use Rattle.table_definitions.specs.Table.{Gluing, Face}
use Rattle.table_definitions.proofs.PermutationLaws.{images_apart}
use Rattle.quad_lift.proofs.CrossingLemmas.{IsAcross, behind}
use Rattle.quad_lift.proofs.quad_vector.QuadVector.across.Goals as goal

pub overflow_mul-result : goal.overflow_mul-result
overflow_mul-result c =
    let b : IsAcross c.args.self.now.skeleton.now.rows _ = behind c.args.self.now.skeleton.now.rows c.table-table.result.now (record { tet = c.args.at.vertex / 4; face = c.args.at.face }) c.in_ok-glue.glue c.table-table.ensures.skeleton.table c.table-table.ensures.rows c.in_ok-glue.ensures.value in
    omega (arith, b.in_range, b.limited, ap (λ (g : Gluing). g.tet) c.glue-3.view_is)

pub overflow_add-result : goal.overflow_add-result
overflow_add-result c =
    let b : IsAcross c.args.self.now.skeleton.now.rows _ = behind c.args.self.now.skeleton.now.rows c.table-table.result.now (record { tet = c.args.at.vertex / 4; face = c.args.at.face }) c.in_ok-glue.glue c.table-table.ensures.skeleton.table c.table-table.ensures.rows c.in_ok-glue.ensures.value in
    omega (arith, b.in_range, b.limited, ap (λ (g : Gluing). g.tet) c.glue-3.view_is, c.image-w.ensures.in_range)

pub quads_along-requires-2 : goal.quads_along-requires-2
quads_along-requires-2 c =
    let b : IsAcross c.args.self.now.skeleton.now.rows _ = behind c.args.self.now.skeleton.now.rows c.table-table.result.now (record { tet = c.args.at.vertex / 4; face = c.args.at.face }) c.in_ok-glue.glue c.table-table.ensures.skeleton.table c.table-table.ensures.rows c.in_ok-glue.ensures.value in
    omega (arith, b.in_range, ap (λ (g : Gluing). g.tet) c.glue-2.view_is, ap (λ (y : Face). y.tet) c.other_side.ensures.value, c.args.self.now.width)

pub invariant_of-far-clause-off : goal.invariant_of-far-clause-off
invariant_of-far-clause-off c = λ e.
    let b : IsAcross c.args.self.now.skeleton.now.rows _ = behind c.args.self.now.skeleton.now.rows c.table-table.result.now (record { tet = c.args.at.vertex / 4; face = c.args.at.face }) c.in_ok-glue.glue c.table-table.ensures.skeleton.table c.table-table.ensures.rows c.in_ok-glue.ensures.value in
    images_apart c.in_ok-glue.glue.perm (c.args.at.vertex % 4) c.args.at.face b.permutes (omega arith) c.args.at.a_face c.if-v-at.false
    (ap (λ (g : Gluing). image g.perm (c.args.at.vertex % 4)) (sym c.glue-2.view_is) ∙ sym c.image-w.ensures.value ∙ e ∙ ap (λ (y : Face). y.face) c.other_side.ensures.value)
