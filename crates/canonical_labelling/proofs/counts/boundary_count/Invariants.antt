use Rattle.std.proofs.Common.{◌≡◌, ◌≤◌}
use Rattle.std.specs.Prelude.{count_by}
use Rattle.table_definitions.specs.Lists.{below}
use Rattle.table_definitions.specs.Places.{face_of, is_boundary}
use Rattle.canonical_labelling.proofs.counts.boundary_count.Given as goal

abbrev pub invariant-loop-place : goal.invariant-loop-place
invariant-loop-place l = record {
  is : l.count ≡ count_by (λ k. is_boundary l.table (face_of k)) (below l.place);
  limited : l.count ≤ l.place;
}
