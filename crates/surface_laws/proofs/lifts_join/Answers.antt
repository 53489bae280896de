-- The height of each vertex is that of the lift at its class.
use Rattle.surface_laws.proofs.Heights.{lifts_join as all_join}
use Rattle.surface_laws.proofs.lifts_join.Goals as goal

pub returns : goal.returns
returns c = λ s xs k w each. all_join s k xs w each
