-- The row has what its four faces become.
use Rattle.crushing.proofs.NewRows.{row_is}
use Rattle.crushing.proofs.surface.NumberedSurface.crushed_row.Goals as goal

pub returns : goal.returns
returns c =
    row_is c.args.self.now.surface.table.now c.args.self.now.surface.entries.now c.args.tet c.crushed_glue.result c.crushed_glue-2.result c.crushed_glue-3.result c.crushed_glue-4.result
    c.crushed_glue.ensures c.crushed_glue-2.ensures c.crushed_glue-3.ensures c.crushed_glue-4.ensures
