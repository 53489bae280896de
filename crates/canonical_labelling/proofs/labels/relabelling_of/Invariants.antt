use Rattle.std.proofs.Common.{◌≡◌, ℕ, ◌<◌, [], length, get_or}
use Rattle.signature_laws.specs.Orders.{start_at}
use Rattle.canonical_labelling.proofs.labels.relabelling_of.Given as goal

-- each tetrahedron so far has its index and the permutation of its vertices
abbrev pub invariant-loop-i : goal.invariant-loop-i
invariant-loop-i l = record {
  size : length l.images.items ≡ length l.traversal.table.now;
  each : (k : ℕ) → k < l.i → get_or l.images.items (start_at l.start-items k).tet 0 ≡ k;
  perms : length l.perms.items ≡ length l.traversal.table.now;
  permute : (k : ℕ) → k < l.i → get_or l.perms.items (start_at l.start-items k).tet [] ≡ (start_at l.start-items k).perm;
}
