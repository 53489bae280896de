-- The row has what its four faces are glued to.
use Rattle.double_cover.proofs.CoverRows.{row_is}
use Rattle.double_cover.proofs.rows.cover_row.Goals as goal

pub returns : goal.returns
returns c =
    row_is c.args.table.now c.args.tet c.cover_glue.result c.cover_glue-2.result c.cover_glue-3.result c.cover_glue-4.result c.cover_glue.ensures.is_table c.requires
    c.cover_glue.ensures.value c.cover_glue-2.ensures.value c.cover_glue-3.ensures.value c.cover_glue-4.ensures.value
