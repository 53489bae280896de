use Rattle.std.proofs.Common.{◌≡◌, ℕ, ◌<◌}
use Rattle.quad_condition.proofs.BitLemmas.{pair_word}
use Rattle.quad_condition.proofs.words.has_pair_ahead.Given as goal

abbrev pub invariant-loop-k : goal.invariant-loop-k
invariant-loop-k l = (j : ℕ) → j < l.k → pair_word l.mask l.a l.b l.distance j ≡ 0
