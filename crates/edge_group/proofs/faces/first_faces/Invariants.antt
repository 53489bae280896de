use Rattle.std.proofs.Common.{◌≤◌, length}
use Rattle.skeleton_class_laws.specs.Numberings.{AreFirstsUpTo}
use Rattle.edge_group.proofs.faces.first_faces.Given as goal

abbrev pub invariant-loop-number : goal.invariant-loop-number
invariant-loop-number l = record {
  up_to : AreFirstsUpTo l.number l.skeleton.faces.classes l.firsts.items;
  limited : length l.firsts.items ≤ l.number;
}
