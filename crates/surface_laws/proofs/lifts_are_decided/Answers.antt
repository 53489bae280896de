-- Heights are spread along chains, and each equation is checked.
use Rattle.surface_laws.proofs.Spreading.{lift_decided}
use Rattle.surface_laws.proofs.lifts_are_decided.Goals as goal

pub returns : goal.returns
returns c = λ s xs class k w l. lift_decided s k xs w class l
