use Rattle.signature_laws.proofs.Uniqueness.{one_least}
use Rattle.signature_laws.proofs.least_relabellings_are_unique.Goals as goal

pub returns : goal.returns
returns c = λ first second by other table connected a b. one_least first second by other table connected a b
