-- The rows of all tetrahedra that stay are the crushed table.
use Rattle.std.proofs.Common.{sym, subst}
use Rattle.table_definitions.specs.Table.{IsTable}
use Rattle.surface_definitions.specs.Crushing.{IsCrushed}
use Rattle.surface_laws.proofs.CrushedRows.{crushed_is_table}
use Rattle.crushing.proofs.NewRows.{all_rows}
use Rattle.crushing.proofs.crushed.crush_table.Goals as goal

pub from_sound_rows-requires : goal.from_sound_rows-requires
from_sound_rows-requires c =
    crushed_is_table c.args.table.now c.args.x.now c.in_ok-rows.ensures.is_table c.in_ok-rows.rows.items (all_rows c.args.table.now c.args.x.now c.in_ok-rows.rows.items c.in_ok-rows.ensures.rows)

pub returns-clause-crushed : goal.returns-clause-crushed
returns-clause-crushed c =
    subst (IsCrushed c.args.table.now c.args.x.now) (sym c.in_ok-crushed.ensures) (all_rows c.args.table.now c.args.x.now c.in_ok-rows.rows.items c.in_ok-rows.ensures.rows)

pub returns-clause-is_table : goal.returns-clause-is_table
returns-clause-is_table c =
    subst IsTable (sym c.in_ok-crushed.ensures)
    (crushed_is_table c.args.table.now c.args.x.now c.in_ok-rows.ensures.is_table c.in_ok-rows.rows.items (all_rows c.args.table.now c.args.x.now c.in_ok-rows.rows.items c.in_ok-rows.ensures.rows))
