-- The lemmas are the laws.
use Rattle.move_link_laws.proofs.Valid.{moves_keep_valid_lem, plays_keep_valid_lem}
use Rattle.move_link_laws.proofs.InvalidClasses.{moves_keep_invalid_lem}
use Rattle.move_link_laws.proofs.moves_keep_valid.Goals as goal

pub returns : goal.returns
returns c = record { moves = moves_keep_valid_lem; plays = plays_keep_valid_lem; number = moves_keep_invalid_lem }
