-- The lemmas are the laws.
use Rattle.skeleton_laws.proofs.Counted.{link_edges_are_sides, edges_have_two_directions, faces_have_two_sides}
use Rattle.skeleton_laws.proofs.classes_are_counted.Goals as goal

pub returns : goal.returns
returns c = record { sides = link_edges_are_sides; directions = edges_have_two_directions; faces = faces_have_two_sides }
