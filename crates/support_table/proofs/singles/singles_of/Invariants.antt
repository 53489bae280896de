-- the columns of the rays so far
use Rattle.support_table.specs.Singles.{AreAllSingles}
use Rattle.support_table.proofs.singles.singles_of.Given as goal

abbrev pub invariant-loop-ray : goal.invariant-loop-ray
invariant-loop-ray l = AreAllSingles l.chunk.search.rays.now l.chunk.search.outers.now l.chunk.chosen.now l.chunk.search.most l.singles.items
