-- the bytes so far have their entries
use Rattle.support_table.specs.Masks.{AreByteMasks}
use Rattle.support_table.proofs.masks.byte_masks.Given as goal

abbrev pub invariant-loop-i : goal.invariant-loop-i
invariant-loop-i l = AreByteMasks l.masks l.i l.table.items
