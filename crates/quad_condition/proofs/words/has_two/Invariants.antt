use Rattle.std.proofs.Common.{◌≡◌, ℕ, ◌<◌}
use Rattle.quad_condition.proofs.BitLemmas.{marked_word}
use Rattle.quad_condition.proofs.words.has_two.Given as goal

abbrev pub invariant-loop-k : goal.invariant-loop-k
invariant-loop-k l = (j : ℕ) → j < l.k → marked_word l.mask l.a l.b j ≡ 0
