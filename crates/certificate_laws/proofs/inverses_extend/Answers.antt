use Rattle.certificate_laws.proofs.Loops.{ways_back_go_on_lem}
use Rattle.certificate_laws.proofs.inverses_extend.Goals as goal

pub returns : goal.returns
returns c = ways_back_go_on_lem
