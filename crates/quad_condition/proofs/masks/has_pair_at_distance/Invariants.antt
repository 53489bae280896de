use Rattle.std.proofs.Common.{ℕ, ◌+◌, ◌<◌, get_or, Vec}
use Rattle.std.specs.declared.alloc.Global.{Global}
use Rattle.quad_condition.specs.Bits.{HasPairAhead}
use Rattle.quad_condition.proofs.masks.has_pair_at_distance.Given as goal

abbrev pub invariant-loop-k : goal.invariant-loop-k
invariant-loop-k l = (j : ℕ) (d : Vec ℕ Global) → j < l.k → HasPairAhead (get_or l.near j d).items l.a l.b (j + 1) → ⊥
