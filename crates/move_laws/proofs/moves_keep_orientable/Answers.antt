-- The lemmas are the laws.
use Rattle.move_laws.proofs.Oriented.{moves_keep_orientable_lem, plays_keep_orientable_lem}
use Rattle.move_laws.proofs.OrientedBack.{moves_come_from_orientable, plays_come_from_orientable, relabelled_from_orientable}
use Rattle.move_laws.proofs.moves_keep_orientable.Goals as goal

pub returns : goal.returns
returns c = record {
  forth = moves_keep_orientable_lem;
  back = moves_come_from_orientable;
  plays_forth = plays_keep_orientable_lem;
  plays_back = plays_come_from_orientable;
  relabelled = relabelled_from_orientable;
}
