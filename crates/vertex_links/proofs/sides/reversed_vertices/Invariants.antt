use Rattle.std.proofs.Common.{◌≡◌, ◌+◌, ◌*◌, ◌<◌, ℕ, false, length, slice_index}
use Rattle.std.specs.Prelude.{◌==◌}
use Rattle.std.specs.List.{slice_index_or}
use Rattle.vertex_links.proofs.sides.reversed_vertices.Given as goal

abbrev pub invariant-loop-vertex : goal.invariant-loop-vertex
invariant-loop-vertex l = record {
  size : length l.passes.items ≡ l.vertex;
  passes : (j : ℕ) → j < l.vertex → slice_index_or l.passes.items j false ≡ (slice_index l.classes (2 * j) == slice_index l.classes (2 * j + 1));
}
