use Rattle.std.proofs.Common.{◌≡◌, ◌<◌, ℕ, false, length}
use Rattle.std.specs.List.{slice_index_or}
use Rattle.table_definitions.specs.Places.{is_boundary}
use Rattle.skeleton_class_laws.specs.Tallies.{side_at}
use Rattle.vertex_links.proofs.sides.boundary_sides.Given as goal

abbrev pub invariant-loop-place : goal.invariant-loop-place
invariant-loop-place l = record {
  size : length l.passes.items ≡ l.place;
  passes : (j : ℕ) → j < l.place → slice_index_or l.passes.items j false ≡ is_boundary l.table (side_at j);
}
