use Rattle.std.proofs.Common.{◌≡◌, ℕ, ◌*◌, ◌-◌, ◌<◌, ◌≤◌, length, slice_index}
use Rattle.ray_decompose.proofs.taking.take_out.Given as goal

abbrev pub invariant-loop-column : goal.invariant-loop-column
invariant-loop-column l = record {
  size : length l.rest.items ≡ length l.fn.taking.rest.items;
  before : (k : ℕ) → k < l.column → slice_index l.rest.items k ≡ l.fn.taking.fraction.denominator * slice_index l.fn.taking.rest.items k - l.fn.taking.fraction.numerator * slice_index l.fn.taking.ray.now k;
  after : (k : ℕ) → l.column ≤ k → slice_index l.rest.items k ≡ slice_index l.fn.taking.rest.items k;
}
