use Rattle.std.proofs.Common.{◌≡◌, ◌<◌}
use Rattle.table_definitions.specs.Permutation.{IsPermutationOfFour}
use Rattle.signature_laws.specs.Orders.{IsWalking, order_after}
use Rattle.canonical_labelling.proofs.order.order_of.Given as goal

abbrev pub invariant-loop-place : goal.invariant-loop-place
invariant-loop-place l = record {
  walking : IsWalking l.traversal.table.now l.walking.order.items l.walking.visited.items;
  so_far : l.walking.order.items ≡ order_after l.traversal.table.now l.fn.traversal.start l.place;
  permutes : 0 < l.place → IsPermutationOfFour l.fn.traversal.start.perm;
}
