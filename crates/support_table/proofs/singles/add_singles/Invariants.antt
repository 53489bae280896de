-- the bits before the next one are done
use Rattle.std.proofs.Common.{◌≤◌, length}
use Rattle.support_table.specs.Singles.{AreAllSingles}
use Rattle.support_table.proofs.BitLemmas.{AreFrom}
use Rattle.support_table.proofs.singles.add_singles.Given as goal

abbrev pub invariant-loop-rest : goal.invariant-loop-rest
invariant-loop-rest l = record {
  below : l.bit ≤ length l.chunk.chosen.now;
  left : AreFrom l.word l.bit l.rest;
  singles : AreAllSingles l.chunk.search.rays.now l.chunk.search.outers.now l.chunk.chosen.now l.chunk.search.most l.singles.items;
}

abbrev pub decreases-loop-rest : goal.decreases-loop-rest
decreases-loop-rest l = l.rest
