use Rattle.std.proofs.Common.{◌+◌}
use Rattle.support_table.proofs.BitLemmas.{AreBefore}
use Rattle.support_table.proofs.OtherLemmas.{AreDoneBits}
use Rattle.support_table.proofs.others.has_of_word.Given as goal

abbrev pub invariant-loop-rest : goal.invariant-loop-rest
invariant-loop-rest l = record {
  before : AreBefore l.column (l.first + 64) l.rest;
  bits : AreDoneBits l.family.table.now.supports l.family.outer.now l.family.list.now l.candidate.place l.first l.word l.column l.rest;
}

abbrev pub decreases-loop-rest : goal.decreases-loop-rest
decreases-loop-rest l = l.rest
