use Rattle.std.proofs.Common.{◌<◌, ℕ}
use Rattle.skeleton_definitions.specs.Skeleton.{IsValidClass}
use Rattle.skeleton.proofs.skeleton.Skeleton.first_invalid.Given as goal

abbrev pub invariant-loop-class : goal.invariant-loop-class
invariant-loop-class l = (d : ℕ) → d < l.class → IsValidClass l.self d
