-- Counts of faces that a relabelling does not change.
use Rattle.std.specs.Prelude.{ℕ, ◌*◌, List, length, count_by}
use Rattle.table_definitions.specs.Lists.{below}
use Rattle.table_definitions.specs.Table.{Row}
use Rattle.table_definitions.specs.Places.{face_of, is_boundary}

-- the number of boundary faces
unfoldable pub boundary_count : List Row → ℕ
boundary_count rows = count_by (λ k. is_boundary rows (face_of k)) (below (4 * length rows))
