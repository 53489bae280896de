-- The lemmas are the laws.
use Rattle.skeleton_laws.proofs.Counted.{edges_have_two_directions}
use Rattle.skeleton_orientation_laws.proofs.Valid.{edges_valid, classes_valid}
use Rattle.skeleton_orientation_laws.proofs.orientable_edges_are_valid.Goals as goal

pub returns : goal.returns
returns c = record {
  edges = edges_valid;
  classes = classes_valid;
  directions = λ rows edges directions e d table orientable. edges_have_two_directions rows edges directions e d table (edges_valid rows table orientable);
}
