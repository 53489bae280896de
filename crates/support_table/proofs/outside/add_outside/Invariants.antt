-- only columns that are not in the support have been marked
use Rattle.support_table.specs.Masks.{IsOutsideAdded}
use Rattle.support_table.proofs.outside.add_outside.Given as goal

abbrev pub invariant-loop-column : goal.invariant-loop-column
invariant-loop-column l = IsOutsideAdded l.columns l.bit l.fn.masks.items l.masks.items
