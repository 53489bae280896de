-- the columns so far have empty sets
use Rattle.std.proofs.Common.{◌≡◌, ℕ, ◌<◌, [], length, slice_index_or}
use Rattle.ray_steps.specs.Partners.{IsClashSetOf}
use Rattle.ray_steps.proofs.partners.empty_clash_sets.Given as goal

abbrev pub invariant-loop-number : goal.invariant-loop-number
invariant-loop-number l = record {
  count : length l.partners.items ≡ l._number;
  each : (k : ℕ) → k < length l.partners.items → IsClashSetOf l.columns [] k (slice_index_or l.partners.items k []);
}
