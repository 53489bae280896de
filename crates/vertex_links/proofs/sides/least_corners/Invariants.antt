use Rattle.std.proofs.Common.{◌≡◌, ◌<◌, ℕ, false, length, slice_index}
use Rattle.std.specs.Prelude.{◌==◌}
use Rattle.std.specs.List.{slice_index_or}
use Rattle.vertex_links.proofs.sides.least_corners.Given as goal

abbrev pub invariant-loop-place : goal.invariant-loop-place
invariant-loop-place l = record {
  size : length l.passes.items ≡ l.place;
  passes : (j : ℕ) → j < l.place → slice_index_or l.passes.items j false ≡ (slice_index l.directions.firsts.items (slice_index l.directions.classes.items j) == j);
}
