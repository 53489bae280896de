use Rattle.std.proofs.Common.{◌≢◌, ◌+◌, ◌*◌, ◌<◌, ℕ, slice_index}
use Rattle.skeleton.proofs.signs.is_consistent.Given as goal

abbrev pub invariant-loop-tet : goal.invariant-loop-tet
invariant-loop-tet l = (t : ℕ) → t < l.tet → slice_index l.classes (2 * t) ≢ slice_index l.classes (2 * t + 1)
