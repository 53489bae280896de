-- none of the pairs so far has both columns in the union
use Rattle.std.proofs.Common.{ℕ, ◌<◌, slice_index_or}
use Rattle.ray_steps.specs.Clashes.{IsInUnion}
use Rattle.worked_cones.proofs.double_description_calls.is_clash_free.Given as goal

abbrev pub invariant-loop-first : goal.invariant-loop-first
invariant-loop-first l = (k : ℕ) (d : ℕ × ℕ) → k < l.first-index → ¬ (IsInUnion l.a l.b (slice_index_or l.clashes k d).0 × IsInUnion l.a l.b (slice_index_or l.clashes k d).1)
