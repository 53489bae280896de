use Rattle.skeleton.specs.Parts.{AreRounds}
use Rattle.skeleton.proofs.corners.walks.Given as goal

abbrev pub invariant-loop-class : goal.invariant-loop-class
invariant-loop-class l = AreRounds l.table l.firsts l.boundary l.class l.walks.items
