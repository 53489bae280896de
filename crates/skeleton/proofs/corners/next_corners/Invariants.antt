use Rattle.std.proofs.Common.{◌≡◌, ◌<◌, ℕ, length}
use Rattle.table_walk_laws.specs.Walks.{step_of}
use Rattle.skeleton_class_laws.specs.Rounds.{next_corner}
use Rattle.skeleton.proofs.corners.next_corners.Given as goal

abbrev pub invariant-loop-place : goal.invariant-loop-place
invariant-loop-place l = record {
  size : length l.next.items ≡ l.place;
  steps : (k : ℕ) → k < l.place → step_of l.next.items k ≡ next_corner l.table k;
}
