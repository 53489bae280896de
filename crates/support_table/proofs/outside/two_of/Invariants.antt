-- the columns of the words so far
use Rattle.std.proofs.Common.{ℕ, List, ◌*◌, length}
use Rattle.support_table.specs.Outside.{AreByteOutsides}
use Rattle.support_table.proofs.OutsideLemmas.{AreLackedBelow}
use Rattle.support_table.proofs.outside.two_of.Given as goal

abbrev pub invariant-loop-k : goal.invariant-loop-k
invariant-loop-k l = (masks : List ℕ) → AreByteOutsides masks (8 * length l.words) l.table → AreLackedBelow masks l.words l.k l.found
