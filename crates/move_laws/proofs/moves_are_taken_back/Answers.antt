use Rattle.move_laws.proofs.BackLaws.{takes_back}
use Rattle.move_laws.proofs.moves_are_taken_back.Goals as goal

pub returns : goal.returns
returns c = takes_back
