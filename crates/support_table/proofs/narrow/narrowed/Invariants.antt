-- the columns so far are copied
use Rattle.support_table.proofs.NarrowLoops.{IsNarrowedBelow}
use Rattle.support_table.proofs.narrow.narrowed.Given as goal

abbrev pub invariant-loop-k : goal.invariant-loop-k
invariant-loop-k l = IsNarrowedBelow l.words l.used l.k l.support
