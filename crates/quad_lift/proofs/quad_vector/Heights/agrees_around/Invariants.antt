-- The heights agree at each face so far.
use Rattle.std.proofs.Common.{ℕ, ◌<◌}
use Rattle.quad_lift.specs.Agreements.{Agrees}
use Rattle.quad_lift.proofs.quad_vector.Heights.agrees_around.Given as goal

abbrev pub invariant-loop-face : goal.invariant-loop-face
invariant-loop-face l = (f : ℕ) → f < l.face → Agrees l.self.vector.skeleton.now l.self.vector.entries.now l.self.values.now l.vertex f
