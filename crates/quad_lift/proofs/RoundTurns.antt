-- The step of the search at a vertex, face by face.
use Rattle.std.proofs.Common.{◌≡◌, ◌≢◌, ℕ, ◌+◌, ◌/◌, ◌%◌, ◌<◌, ◌≤◌, Bool, true, false, List, [], ◌∷◌, ◌++◌, length, set, Option, Some, None, refl, ◌∙◌}
use Rattle.std.specs.List.{slice_index_or}
use Rattle.table_walk_laws.specs.Search.{IsMarked, IsSearchStep, IsSearch}
use Rattle.table_walk_laws.specs.Joined.{present}
use Rattle.table_walk_laws.proofs.Rows.{present_all, entry_marks, entry_passes, entry_skips}
use Rattle.table_walk_laws.proofs.SearchLemmas.{turn_ends}
use Rattle.table_definitions.specs.Table.{Row, glue}
use Rattle.skeleton_class_laws.specs.Crossings.{crossed_vertex}
use Rattle.skeleton_class_laws.specs.Neighbours.{row_at}
use Rattle.skeleton_class_laws.proofs.NeighbourLemmas.{entry_at}
use Rattle.quad_lift.specs.Spreads.{vertices_around, neighbours_before}
use Rattle.quad_lift.proofs.CrossingLemmas.{crossed_none}

module _ (rows : List Row) (first : List Bool) (i f : ℕ) (l : f < 4) (marked : List Bool) (pending : List ℕ) (t : IsSearchStep (vertices_around rows) first i (neighbours_before rows i f) marked pending) where
  abbrev row : List (Option ℕ)
  row = row_at (crossed_vertex rows) i

  same : vertices_around rows i ≡ present row
  unfolding vertices_around
  same = refl

  pub turn_skips : (i % 4 ≢ f → glue rows (record { tet = i / 4; face = f }) ≡ None) → IsSearchStep (vertices_around rows) first i (neighbours_before rows i (f + 1)) marked pending
  turn_skips free = entry_skips (vertices_around rows) first i row same f l marked pending t marked pending (entry_at (crossed_vertex rows) i f l ∙ crossed_none rows i f free) refl refl

  pub turn_finds : (j : ℕ) → crossed_vertex rows i f ≡ Some j → IsMarked marked j → IsSearchStep (vertices_around rows) first i (neighbours_before rows i (f + 1)) marked pending
  turn_finds j e m = entry_passes (vertices_around rows) first i row same f l marked pending t marked pending j (entry_at (crossed_vertex rows) i f l ∙ e) m refl refl

  pub turn_adds : (j : ℕ) (more : List ℕ) → crossed_vertex rows i f ≡ Some j → j < length marked → slice_index_or marked j false ≡ false → more ≡ pending ++ j ∷ []
      → IsSearchStep (vertices_around rows) first i (neighbours_before rows i (f + 1)) (set marked j true) more
  turn_adds j more e lj free is = entry_marks (vertices_around rows) first i row same f l marked pending t (set marked j true) more j (entry_at (crossed_vertex rows) i f l ∙ e) lj free refl is

pub turn_over : (rows : List Row) (first : List Bool) (i f : ℕ) (marked : List Bool) (pending : List ℕ) → 4 ≤ f → IsSearchStep (vertices_around rows) first i (neighbours_before rows i f) marked pending → IsSearch (vertices_around rows) first marked pending
unfolding vertices_around
turn_over rows first i f marked pending l t = turn_ends (vertices_around rows) first i (neighbours_before rows i f) marked pending t (present_all (row_at (crossed_vertex rows) i) f l)
