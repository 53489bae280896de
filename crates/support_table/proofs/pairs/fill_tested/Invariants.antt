-- those so far are tested
use Rattle.support_table.specs.Pairs.{AreTested}
use Rattle.support_table.proofs.pairs.fill_tested.Given as goal

abbrev pub invariant-loop-candidate : goal.invariant-loop-candidate
invariant-loop-candidate l = AreTested l.pairs.found.table.now.supports l.pairs.found.outer.now l.selected l.pairs.found.list.now l.candidate-index l.tested.items
