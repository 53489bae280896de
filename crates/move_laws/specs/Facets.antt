-- Facets with their labels, and the rows that a move puts in.
use Rattle.std.specs.Prelude.{◌≡◌, ◌≢◌, ℕ, ◌+◌, ◌-◌, ◌<◌, ◌≤◌, List, length, map, nat_lt, Option, Some, None, option_and_then, if◌then◌else◌}
use Rattle.std.specs.List.{slice_index_or, range_with_len}
use Rattle.table_definitions.specs.Permutation.{image}
use Rattle.table_definitions.specs.Table.{Gluing, Row, IsTable, glue}
use Rattle.table_definitions.specs.Replacing.{Replacement}
use Rattle.move_definitions.specs.Moves.{Move, IsCore, Facet, facet, vertex_of, opposite, play_fault, old_facets, kept, new_facet, moved_gluing, facet_gluing}
use Rattle.move_definitions.specs.Undos.{taken_numbers}

-- each label but the missing one is that of one vertex
pub record IsFacet (f : Facet) : Type 0 where
  pub missing_below : f.missing < 5
  pub four_labels : length f.labels ≡ 4
  pub label_below : (v : ℕ) → v < 4 → image f.labels v < 5
  pub label_other : (v : ℕ) → v < 4 → image f.labels v ≢ f.missing
  pub vertex_back : (v : ℕ) → v < 4 → vertex_of f (image f.labels v) ≡ v
  pub vertex_below : (l : ℕ) → l < 5 → l ≢ f.missing → vertex_of f l < 4
  pub label_back : (l : ℕ) → l < 5 → l ≢ f.missing → image f.labels (vertex_of f l) ≡ l

-- f is the facet of the table that lacks label i
pub record IsOldFacet (rows : List Row) (m : Move) (i : ℕ) (f : Facet) : Type 0 where
  pub found : facet rows m i ≡ Some f
  pub missing_is : f.missing ≡ i
  pub old_label : length m.core ≤ i
  pub labelled : IsFacet f
  pub in_range : f.tet < length rows

-- the facets that are taken out, by ascending missing label
pub record AreOldFacets (rows : List Row) (m : Move) (facets : List Facet) : Type 0 where
  pub are : facets ≡ old_facets rows m
  pub some : 0 < length m.core
  pub count : length facets + length m.core ≡ 5
  pub limited : length (taken_numbers rows m) ≤ 4
  pub each : (k : ℕ) (d : Facet) → k < length facets → IsOldFacet rows m (length m.core + k) (slice_index_or facets k d)

-- the gluing of the face of the new facet j that replaces the face of the old facet f opposite label j
abbrev pub outer_gluing : List Row → Move → Facet → ℕ → Option Gluing
outer_gluing rows m f j = option_and_then (moved_gluing rows m (opposite f j) (facet_gluing rows m f j)) (glue rows (opposite f j))

-- what the face of the new facet j opposite label l is glued by
abbrev pub fresh_gluing : List Row → Move → ℕ → ℕ → Option Gluing
fresh_gluing rows m j l =
    if nat_lt l (length m.core) then Some (facet_gluing rows m (new_facet rows m j) l) else option_and_then (λ f. outer_gluing rows m f j) (facet rows m l)

abbrev pub put_row : List Row → Move → ℕ → Row
put_row rows m j = map (fresh_gluing rows m j) (new_facet rows m j).labels

-- rows with their numbers
abbrev pub numbered : (ℕ → Row) → List ℕ → List (ℕ × Row)
numbered row numbers = map (λ t. (t, row t)) numbers

-- the rows that are put in, with their numbers
abbrev pub put_rows : List Row → Move → List (ℕ × Row)
put_rows rows m = numbered (λ u. put_row rows m (u - kept rows m)) (range_with_len (kept rows m) (length m.core))

-- what a move takes out and puts in
abbrev pub exchange : List Row → Move → Replacement
exchange rows m = record { removed = taken_numbers rows m; fresh = put_rows rows m }

-- the move can be played
pub record CanPlay (rows : List Row) (m : Move) : Type 0 where
  pub table : IsTable rows
  pub core : IsCore m.core
  pub playable : play_fault rows m ≡ None
