-- At most as many tetrahedra are seen as there are rows.
use Rattle.std.proofs.Common.{sym, ap, arith}
use Rattle.table_definitions.specs.Table.{Gluing}
use Rattle.signature_codec.proofs.walk.take_face.Goals as goal

pub overflow_add-walk : goal.overflow_add-walk
overflow_add-walk c =
    let within = c.in-Some.ensures.is_table.in_range _ c.in-Some.glue (sym c.in-Some.ensures.value) in
    omega (arith, within, c.in-Some.ensures.is_table.limited, ap (λ (g : Gluing). g.tet) c.glue-2.view_is)
