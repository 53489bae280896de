-- each list so far is right
use Rattle.support_table.specs.Parts.{AreFoundFor}
use Rattle.support_table.proofs.parts.find_each.Given as goal

abbrev pub invariant-loop-n : goal.invariant-loop-n
invariant-loop-n l = AreFoundFor l.search.rays.now.supports l.search.outers.now l.search.selected.now l.search.most l.found.items
