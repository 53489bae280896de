-- those so far are kept
use Rattle.support_table.specs.Pairs.{AreKept}
use Rattle.support_table.proofs.pairs.fill_kept.Given as goal

abbrev pub invariant-loop-candidate : goal.invariant-loop-candidate
invariant-loop-candidate l = AreKept l.pairs.found.table.now.supports l.pairs.found.outer.now l.most l.pairs.found.list.now l.candidate-index l.kept.items
