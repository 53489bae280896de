-- The inverse moves of a making, from its last step to its first: each is carried to the table that results from the
-- ones before it.
use Rattle.std.specs.Prelude.{◌≡◌, ℕ, ◌<◌, ◌≤◌, Bool, false, ◌&&◌, List, [], ◌∷◌, ◌++◌, length, map, ◌==◌, Option, Some, find, slice_index, IsTrue}
use Rattle.std.specs.List.{list_all}
use Rattle.table_definitions.specs.Lists.{below, has}
use Rattle.table_definitions.specs.Permutation.{identity, image}
use Rattle.table_definitions.specs.Table.{Row}
use Rattle.table_definitions.specs.Relabelling.{Relabelling, IsRelabelling, relabelled_place}
use Rattle.move_definitions.specs.Moves.{Move, Facet, old_facets, facet, new_facet, inverse_move, Plays}
use Rattle.certificate_definitions.specs.CarriedMoves.{move_under, by_labels, is_removed_by, number_then}

-- the facet, of those that a move takes out, that is tetrahedron t
abbrev pub facet_at : List Row → Move → ℕ → Option Facet
facet_at rows m t = find (λ (f : Facet). f.tet == t) (old_facets rows m)

-- whether the list contains each of the labels 0 to 4
abbrev pub is_renaming : List ℕ → Bool
is_renaming labels = (length labels == 5) && list_all (has labels) (below 5)

-- The labels of a step m correspond to those of the move that is played back on `now`, each once: the label at a vertex
-- of a facet that the step put in corresponds to the label at the vertex to which this one goes, and so a label that no
-- such facet has corresponds to the one that is left.
pub record Correspond (old : List Row) (m : Move) (now : List Row) (back : Move) (on : Relabelling) (labels : List ℕ) : Type 0 where
  pub each_once : IsTrue (is_renaming labels)
  pub held : (j : ℕ) → j < length m.core
      → (f : Facet) × (facet_at now back (relabelled_place on (new_facet old m j).tet).tet ≡ Some f)
      × ((v : ℕ) → v < 4 → slice_index labels (image (new_facet old m j).labels v) ≡ image f.labels (image (relabelled_place on (new_facet old m j).tet).perm v))

-- The relabelling `by` of the table before step m, made from the relabelling `on` of its result, which carries that to
-- `now`. A retained tetrahedron is mapped as `on` maps what it becomes. A removed one, which lacks a label, is mapped
-- to the new facet for the corresponding label, each vertex to the vertex with the corresponding label.
pub record IsCarriedBack (old : List Row) (m : Move) (now : List Row) (back : Move) (on by : Relabelling) : Type 0 where
  pub labels : List ℕ
  pub correspond : Correspond old m now back on labels
  pub relabels : IsRelabelling (length old) by
  pub kept : (t : ℕ) → t < length old → is_removed_by old m t ≡ false
      → relabelled_place by t ≡ record { tet = number_then now back (relabelled_place on (number_then old m t)).tet; perm = (relabelled_place on (number_then old m t)).perm }
  pub replaced : (i : ℕ) → length m.core ≤ i → i < 5
      → (f : Facet) × (facet old m i ≡ Some f) × (relabelled_place by f.tet ≡ by_labels (slice_index labels) f (new_facet now back (slice_index labels i)))

-- each tetrahedron stays
abbrev pub staying : ℕ → Relabelling
staying n = record { images = below n; perms = map (λ t. identity) (below n) }

-- the inverse of step m, on a table to which `on` carries the result of the step
abbrev pub move_back : List Row → Move → Relabelling → Move
move_back old m on = move_under on (inverse_move (length old) m)

-- The moves lead from a table to the last one; the moves back, from the last step to the first, lead from there to
-- `end`, to which the relabelling carries the table.
abbrev pub AreCarriedBack : List Row → List Move → List Row → List Move → List Row → Relabelling → Type 0
AreCarriedBack rows [] last back end by = (rows ≡ last) × (back ≡ []) × (end ≡ last) × (by ≡ staying (length last))
AreCarriedBack rows (m ∷ ms) last back end by =
    (next : List Row) × Plays rows m next
    × ((later : List Move) × (now : List Row) × (on : Relabelling) × AreCarriedBack next ms last later now on
    × (back ≡ later ++ move_back rows m on ∷ []) × Plays now (move_back rows m on) end × IsCarriedBack rows m now (move_back rows m on) on by)
