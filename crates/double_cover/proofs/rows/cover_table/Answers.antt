-- The rows of a cover are a table.
use Rattle.std.proofs.Common.{sym, subst}
use Rattle.table_definitions.specs.Table.{IsTable}
use Rattle.cover_laws.proofs.Covered.{cover_is_table}
use Rattle.double_cover.proofs.rows.cover_table.Goals as goal

pub from_sound_rows-requires : goal.from_sound_rows-requires
from_sound_rows-requires c = subst IsTable (sym c.in_ok-rows.ensures.rows) (cover_is_table c.args.table.now c.in_ok-rows.ensures.is_table c.requires)
