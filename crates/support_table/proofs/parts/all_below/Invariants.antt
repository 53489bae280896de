use Rattle.support_table.specs.Parts.{AreAllBelow}
use Rattle.support_table.proofs.parts.all_below.Given as goal

abbrev pub invariant-loop-k : goal.invariant-loop-k
invariant-loop-k l = AreAllBelow l.k l.places.items
