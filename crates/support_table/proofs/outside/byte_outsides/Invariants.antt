-- the bytes so far have their entries
use Rattle.support_table.specs.Outside.{AreByteOutsides}
use Rattle.support_table.proofs.outside.byte_outsides.Given as goal

abbrev pub invariant-loop-i : goal.invariant-loop-i
invariant-loop-i l = AreByteOutsides l.masks l.i l.table.items
