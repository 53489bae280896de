use Rattle.skeleton_class_laws.specs.Signs.{AreSignsBy}
use Rattle.skeleton.proofs.signs.signs_by.Given as goal

abbrev pub invariant-loop-tet : goal.invariant-loop-tet
invariant-loop-tet l = AreSignsBy l.classes l.tet l.signs.items
