-- The tetrahedron of a gluing is one of the table.
use Rattle.std.proofs.Common.{◌<◌, length, sym, ◌∙◌, arith}
use Rattle.double_cover.proofs.rows.cover_glue.Goals as goal

pub lift_glue-requires : goal.lift_glue-requires
lift_glue-requires c =
    let inside : c.in-Some.glue.tet < length c.args.table.now = c.len.ensures.is_table.in_range _ c.in-Some.glue (sym c.glue.ensures.value ∙ c.in-Some.is) in
    omega (arith, inside, c.len.ensures.value)
