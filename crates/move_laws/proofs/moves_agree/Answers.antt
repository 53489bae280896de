use Rattle.move_laws.proofs.Agreement.{moves_agree_lem}
use Rattle.move_laws.proofs.moves_agree.Goals as goal

pub returns : goal.returns
returns c = moves_agree_lem
