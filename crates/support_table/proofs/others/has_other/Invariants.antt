use Rattle.std.proofs.Common.{◌*◌}
use Rattle.support_table.proofs.OtherLemmas.{HasNoneBelow}
use Rattle.support_table.proofs.others.has_other.Given as goal

abbrev pub invariant-loop-k : goal.invariant-loop-k
invariant-loop-k l = HasNoneBelow l.family.table.now.supports l.family.outer.now l.family.list.now l.candidate.place (64 * l.k) l.word-items l.outside
