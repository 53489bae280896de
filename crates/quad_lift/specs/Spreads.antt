-- Heights that are being spread over the vertices of a table. They begin at four times the sum of the quads.
use Rattle.std.specs.Prelude.{◌≡◌, ℕ, ◌+◌, ◌*◌, ◌/◌, ◌<◌, ◌≤◌, Bool, false, List, length, take, sum, sum_by, slice_index, if◌then◌else◌}
use Rattle.std.specs.List.{slice_index_or, filter_map}
use Rattle.table_definitions.specs.Lists.{below}
use Rattle.table_definitions.specs.Table.{Row}
use Rattle.skeleton_definitions.specs.Skeleton.{Skeleton}
use Rattle.skeleton_class_laws.specs.Neighbours.{row_at}
use Rattle.skeleton_class_laws.specs.Crossings.{crossed_vertex}
use Rattle.table_walk_laws.specs.Search.{IsMarked}
use Rattle.surface_laws.specs.LiftLaws.{AreHeights}

-- the vertices across the faces at vertex i
unfoldable pub vertices_around : List Row → ℕ → List ℕ
vertices_around rows i = filter_map (λ o. o) (row_at (crossed_vertex rows) i)

-- the vertices across the faces of vertex i before face f
abbrev pub neighbours_before : List Row → ℕ → ℕ → List ℕ
neighbours_before rows i f = filter_map (λ o. o) (take f (row_at (crossed_vertex rows) i))

-- all quads of the tetrahedron of vertex i
unfoldable pub quads_around : List ℕ → ℕ → ℕ
quads_around xs i = slice_index xs (3 * (i / 4)) + slice_index xs (3 * (i / 4) + 1) + slice_index xs (3 * (i / 4) + 2)

-- the sum of the quads of the tetrahedra of the marked vertices below n
unfoldable pub marked_quads : List ℕ → List Bool → ℕ → ℕ
marked_quads xs marked n = sum_by (λ i. if slice_index_or marked i false then quads_around xs i else 0) (below n)

-- the marked vertices have heights: between marked vertices of a class any heights differ as these do, and each differs
-- from the first by at most the quads of the marked vertices
pub record AreSpread (s : Skeleton) (xs : List ℕ) (marked : List Bool) (heights : List ℕ) : Type 0 where
  pub one_mark : length marked ≡ 4 * length s.rows
  pub one_height : length heights ≡ 4 * length s.rows
  pub forced : (i j : ℕ) (h : ℕ → ℕ) → IsMarked marked i → IsMarked marked j → slice_index s.vertices.classes i ≡ slice_index s.vertices.classes j
      → AreHeights s xs (slice_index s.vertices.classes i) h → slice_index heights i + h j ≡ slice_index heights j + h i
  pub low : (i : ℕ) → IsMarked marked i → 4 * sum xs ≤ slice_index heights i + marked_quads xs marked (4 * length s.rows)
  pub high : (i : ℕ) → IsMarked marked i → slice_index heights i + quads_around xs i ≤ 4 * sum xs + marked_quads xs marked (4 * length s.rows)

-- heights of all vertices; any heights of a class differ from them by one number
pub record AreAllSpread (s : Skeleton) (xs heights : List ℕ) : Type 0 where
  pub one_height : length heights ≡ 4 * length s.rows
  pub forced : (i j : ℕ) (h : ℕ → ℕ) → i < 4 * length s.rows → j < 4 * length s.rows → slice_index s.vertices.classes i ≡ slice_index s.vertices.classes j
      → AreHeights s xs (slice_index s.vertices.classes i) h → slice_index heights i + h j ≡ slice_index heights j + h i
  pub high : (i : ℕ) → i < 4 * length s.rows → slice_index heights i + quads_around xs i ≤ 8 * sum xs
