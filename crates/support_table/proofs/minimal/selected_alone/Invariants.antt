use Rattle.support_table.specs.Groups.{AreSelectedAlone}
use Rattle.support_table.proofs.minimal.selected_alone.Given as goal

abbrev pub invariant-loop-candidate : goal.invariant-loop-candidate
invariant-loop-candidate l = AreSelectedAlone l.family.table.now.supports l.family.outer.now l.family.list.now l.selected l.list l.candidate-index l.places.items
