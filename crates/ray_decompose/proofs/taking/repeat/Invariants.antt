use Rattle.std.proofs.Common.{◌≡◌, ℕ, ◌<◌, ◌≤◌, slice_index_or}
use Rattle.sum_definitions.specs.Sums.{Term as Taken, repeated}
use Rattle.ray_decompose.proofs.taking.repeat.Given as goal

abbrev pub invariant-loop-term : goal.invariant-loop-term
invariant-loop-term l = record {
  before : (k : ℕ) (d : Taken) → k < l.term-index → slice_index_or l.terms k d ≡ repeated l.times (slice_index_or l.initial.terms k d);
  after : (k : ℕ) (d : Taken) → l.term-index ≤ k → slice_index_or l.terms k d ≡ slice_index_or l.initial.terms k d;
}
