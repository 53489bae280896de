-- the bits of the bytes so far
use Rattle.std.proofs.Common.{ℕ, List, ◌*◌}
use Rattle.support_table.specs.Outside.{AreOutsidesOfWord}
use Rattle.support_table.proofs.OutsideLemmas.{IsOutsideBelow}
use Rattle.support_table.proofs.outside.outside_of_word.Given as goal

abbrev pub invariant-loop-i : goal.invariant-loop-i
invariant-loop-i l = (masks : List ℕ) (first : ℕ) → AreOutsidesOfWord masks first l.start l.table → IsOutsideBelow masks first l.word (8 * l.i) l.found
