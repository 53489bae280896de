-- The row of the standard sphere is a table.
use Rattle.std.proofs.Common.{sym, subst}
use Rattle.table_definitions.specs.Table.{IsTable}
use Rattle.certificate_laws.proofs.Sphere.{sphere_table}
use Rattle.sphere_certificate.proofs.sphere.standard.Goals as goal

pub from_sound_rows-requires : goal.from_sound_rows-requires
from_sound_rows-requires c = subst IsTable (sym c.in_ok-rows.ensures) sphere_table
