-- the values of the bits so far have their entries
use Rattle.support_table.proofs.MaskLemmas.{IsByteBelow}
use Rattle.support_table.proofs.masks.push_byte.Given as goal

abbrev pub invariant-loop-j : goal.invariant-loop-j
invariant-loop-j l = IsByteBelow l.masks l.first l.j l.fn.table.items l.table.items
