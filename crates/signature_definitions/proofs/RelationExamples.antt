-- A table of the examples fulfils the relation of spelling.
use Rattle.std.proofs.Common.{refl}
use Rattle.std.specs.Prelude.{codes}
use Rattle.signature_definitions.specs.Spelling.{Spells}
use Rattle.signature_definitions.proofs.Computed.{computed}
use Rattle.table_definitions.proofs.Tables.{sphere}
use Rattle.table_definitions.proofs.RelationExamples.{sphere_table}

-- the texts spell the tables
pub sphere_spelled : Spells (codes "bkaagj") sphere
unfolding computed
sphere_spelled = record { table = sphere_table; ordered = refl; spelled = refl }
