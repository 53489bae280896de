use Rattle.move_laws.proofs.Played.{plays_agree_lem}
use Rattle.move_laws.proofs.Cores.{move_lines_have_cores_lem}
use Rattle.move_laws.proofs.plays_agree.Goals as goal

pub returns-clause-tables : goal.returns-clause-tables
returns-clause-tables c = plays_agree_lem

pub returns-clause-lines : goal.returns-clause-lines
returns-clause-lines c = move_lines_have_cores_lem
