-- The row has the gluings of its four faces.
use Rattle.component_signature.proofs.Searching.{row_is}
use Rattle.component_signature.proofs.renumbered.renumbered_row.Goals as goal

pub returns : goal.returns
returns c =
    row_is c.args.table.now c.args.numbers.now c.args.tet c.renumbered_glue.result c.renumbered_glue-2.result c.renumbered_glue-3.result c.renumbered_glue-4.result c.requires.table c.requires.part c.requires.there
    c.renumbered_glue.ensures c.renumbered_glue-2.ensures c.renumbered_glue-3.ensures c.renumbered_glue-4.ensures
