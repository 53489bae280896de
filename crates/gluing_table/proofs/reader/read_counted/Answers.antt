use Rattle.std.proofs.Common.{refl}
use Rattle.gluing_table.proofs.RowsRead.{counted}
use Rattle.gluing_table.proofs.reader.read_counted.Goals as goal

pub returns : goal.returns
returns c = counted _ _ _ _ _ _ _ c.in_ok-end_line.ensures c.in_ok-rows.ensures refl c.in_ok-table.ensures.table c.in_ok-table.ensures.is_table
