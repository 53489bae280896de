-- the bit is set for the columns so far
use Rattle.support_table.proofs.MaskLemmas.{IsAddedBelow}
use Rattle.support_table.proofs.masks.add_mask.Given as goal

abbrev pub invariant-loop-column : goal.invariant-loop-column
invariant-loop-column l = IsAddedBelow l.columns l.bit l.column l.fn.masks.items l.masks.items
