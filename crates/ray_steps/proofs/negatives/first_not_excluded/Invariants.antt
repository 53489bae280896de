-- all supports from the start on, up to the current one, are ruled out
use Rattle.std.proofs.Common.{ℕ, ◌-◌, ◌<◌, ◌≤◌, [], length, slice_index_or}
use Rattle.ray_steps.specs.Negatives.{IsRuledOut}
use Rattle.ray_steps.proofs.negatives.first_not_excluded.Given as goal

abbrev pub invariant-loop-place : goal.invariant-loop-place
invariant-loop-place l = record {
  least : l.start ≤ l.place;
  within : l.place ≤ length l.search.table.now.supports;
  earlier : (k : ℕ) → l.start ≤ k → k < l.place → IsRuledOut l.search.support.now l.search.joined.now l.search.most (slice_index_or l.search.table.now.supports k []);
}

abbrev pub decreases-loop-place : goal.decreases-loop-place
decreases-loop-place l = length l.search.table.now.supports - l.place
