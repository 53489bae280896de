use Rattle.std.proofs.Common.{◌≤◌, length}
use Rattle.skeleton_class_laws.specs.Numberings.{AreFirstsUpTo}
use Rattle.skeleton.proofs.numbering.firsts.Given as goal

abbrev pub invariant-loop-place : goal.invariant-loop-place
invariant-loop-place l = record {
  up_to : AreFirstsUpTo l.place l.classes l.firsts.items;
  limited : length l.firsts.items ≤ l.place;
}
