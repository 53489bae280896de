-- The tetrahedra that are still marked.
use Rattle.std.proofs.Common.{◌≡◌, length}
use Rattle.canonical_labelling.proofs.Cleaning.{AreLeft}
use Rattle.canonical_labelling.proofs.order.leave.Given as goal

abbrev pub invariant-loop-i : goal.invariant-loop-i
invariant-loop-i l = record {
  order : l.walking.order.items ≡ l.fn.walking.order.items;
  size : length l.walking.visited.items ≡ length l.fn.walking.visited.items;
  left : AreLeft l.walking.order.items l.i l.walking.visited.items;
}
