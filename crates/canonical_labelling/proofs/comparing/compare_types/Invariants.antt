use Rattle.std.proofs.Common.{◌≡◌, ◌≤◌, ◌+◌, ◌*◌, ◌++◌, ℕ, None, map, take, length}
use Rattle.signature_definitions.specs.Spelling.{character, packed}
use Rattle.canonical_labelling.specs.Comparisons as comparisons
use Rattle.canonical_labelling.specs.Comparisons.{IsComparison, FollowsWalks, head_text, comparison_view}
use Rattle.canonical_labelling.proofs.comparing.compare_types.Given as goal

abbrev pub invariant-loop-place : goal.invariant-loop-place
invariant-loop-place l = record {
  comparison : IsComparison l.place (comparison_view l.space.comparison);
  size : length l.space.comparison.numbers.items ≡ length l.fn.probe.rows;
  follows : FollowsWalks l.fn.probe.rows l.fn.start l.place (comparison_view l.space.comparison);
  agreed : (m : ℕ) → 3 * m ≤ length l.space.comparison.types.items → comparisons.reported (head_text (length l.fn.probe.rows) ++ map character (packed (take (3 * m) l.space.comparison.types.items))) l.bound ≡ None;
  rows : l.probe.rows ≡ l.fn.probe.rows;
  head : l.space.head.items ≡ l.fn.space.head.items;
  reads : l.probe.taken ≤ l.fn.probe.taken + length l.space.comparison.types.items;
}
