-- the columns of the words so far
use Rattle.std.proofs.Common.{ℕ, List, ◌*◌, length}
use Rattle.support_table.specs.Masks.{AreByteMasks}
use Rattle.support_table.proofs.MaskLemmas.{IsMarkBelow}
use Rattle.support_table.proofs.masks.mask_of.Given as goal

abbrev pub invariant-loop-k : goal.invariant-loop-k
invariant-loop-k l = (masks : List ℕ) → AreByteMasks masks (8 * length l.words) l.table → IsMarkBelow masks l.words l.k l.mask
