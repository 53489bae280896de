use Rattle.support_table.specs.Groups.{AreGrouped}
use Rattle.support_table.proofs.groups.fill_with_groups.Given as goal

abbrev pub invariant-loop-candidate : goal.invariant-loop-candidate
invariant-loop-candidate l = AreGrouped l.found.table.now.supports l.found.outer.now l.found.list.now l.candidate-index l.grouped.items
