use Rattle.signature_laws.proofs.Agreeing.{one_walk}
use Rattle.signature_laws.proofs.walks_agree.Goals as goal

pub returns : goal.returns
returns c = λ rows start by others new other table in_range w w'. one_walk rows new other by others table start in_range w w'
