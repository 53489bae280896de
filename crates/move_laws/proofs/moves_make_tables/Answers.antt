use Rattle.move_laws.proofs.MadeTables.{moves_make_tables_lem}
use Rattle.move_laws.proofs.moves_make_tables.Goals as goal

pub returns : goal.returns
returns c = moves_make_tables_lem
