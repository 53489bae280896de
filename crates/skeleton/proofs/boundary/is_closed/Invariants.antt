use Rattle.std.proofs.Common.{◌≡◌, ◌<◌, ℕ, false}
use Rattle.skeleton.specs.Parts.{is_open_at}
use Rattle.skeleton.proofs.boundary.is_closed.Given as goal

abbrev pub invariant-loop-tet : goal.invariant-loop-tet
invariant-loop-tet l = (t f : ℕ) → t < l.tet → f < 4 → is_open_at l.table t f ≡ false
