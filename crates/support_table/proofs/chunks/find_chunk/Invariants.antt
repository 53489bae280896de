-- each list so far is right
use Rattle.support_table.specs.Parts.{AreFoundFor}
use Rattle.support_table.proofs.chunks.find_chunk.Given as goal

abbrev pub invariant-loop-bit : goal.invariant-loop-bit
invariant-loop-bit l = AreFoundFor l.search.rays.now.supports l.search.outers.now l.search.selected.now l.search.most l.found.items
