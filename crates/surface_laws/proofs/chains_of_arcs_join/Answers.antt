-- Chains of arcs can be joined, and read backwards across the inverse gluings.
use Rattle.surface_laws.proofs.PieceChains.{chains_of_arcs}
use Rattle.surface_laws.proofs.chains_of_arcs_join.Goals as goal

pub returns : goal.returns
returns c = λ rows coords xs s. chains_of_arcs rows coords xs s
