use Rattle.std.proofs.Common.{◌≤◌, length}
use Rattle.presentation_laws.specs.Classes.{AreGeneratorsBelow}
use Rattle.edge_group.proofs.generators.Generators.of.Given as goal

abbrev pub invariant-loop-class : goal.invariant-loop-class
invariant-loop-class l = record {
  below : AreGeneratorsBelow l.skeleton l.class l.classes.items;
  limited : length l.classes.items ≤ l.class;
}
