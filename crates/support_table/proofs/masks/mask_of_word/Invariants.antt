-- the bits of the bytes so far
use Rattle.std.proofs.Common.{ℕ, List, ◌*◌}
use Rattle.support_table.specs.Masks.{AreMasksOfWord}
use Rattle.support_table.proofs.MaskLemmas.{IsMaskBelow}
use Rattle.support_table.proofs.masks.mask_of_word.Given as goal

abbrev pub invariant-loop-i : goal.invariant-loop-i
invariant-loop-i l = (masks : List ℕ) (first : ℕ) → AreMasksOfWord masks first l.start l.table → IsMaskBelow masks first l.word (8 * l.i) l.mask
