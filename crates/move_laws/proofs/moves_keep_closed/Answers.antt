-- The lemmas are the laws.
use Rattle.move_laws.proofs.Closed.{moves_keep_closed_lem, moves_keep_boundary_lem, plays_keep_closed_lem, plays_keep_boundary_lem}
use Rattle.move_laws.proofs.moves_keep_closed.Goals as goal

pub returns : goal.returns
returns c = record { forth = moves_keep_closed_lem; back = moves_keep_boundary_lem; plays_forth = plays_keep_closed_lem; plays_back = plays_keep_boundary_lem }
