use Rattle.std.proofs.Common.{◌≡◌, ℕ, ◌<◌, None, length}
use Rattle.std.specs.List.{slice_index_or}
use Rattle.edge_group.specs.Across.{IsLeastCloser}
use Rattle.edge_group.proofs.tree.tree_faces.Given as goal

abbrev pub invariant-loop-tet : goal.invariant-loop-tet
invariant-loop-tet l = record {
  one_each : length l.faces.items ≡ l.tet;
  reported : (t : ℕ) → t < l.tet → IsLeastCloser l.table t 4 (slice_index_or l.faces.items t None);
}
