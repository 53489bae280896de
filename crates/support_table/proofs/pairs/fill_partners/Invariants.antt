-- the bits so far are those of pairs
use Rattle.support_table.specs.Pairs.{ArePartners}
use Rattle.support_table.proofs.pairs.fill_partners.Given as goal

abbrev pub invariant-loop-candidate : goal.invariant-loop-candidate
invariant-loop-candidate l = ArePartners l.found.table.now.supports l.found.outer.now l.found.list.now l.partners.items
