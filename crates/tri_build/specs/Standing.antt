-- The images of the tetrahedra of a table before a step, in the table after the inverse move.
use Rattle.std.specs.Prelude.{◌≡◌, ℕ, ◌+◌, ◌-◌, ◌<◌, List, filter, map, length, not, ◌==◌, nat_lt, Option, Some, None, find, slice_index, All, if◌then◌else◌}
use Rattle.table_definitions.specs.Lists.{below, rank_without}
use Rattle.table_definitions.specs.Permutation.{IsPermutationOfFour}
use Rattle.table_definitions.specs.Table.{Gluing, Row}
use Rattle.table_definitions.specs.Relabelling.{Relabelling, IsRelabelling, relabelled_place}
use Rattle.move_definitions.specs.Moves.{Move, Facet, old_facets, kept, inverse_move}
use Rattle.certificate_definitions.specs.CarriedMoves.{move_under, label_under, by_labels}
use Rattle.tri_build.specs.Steps.{PlayedMove}

-- the label, in the inverse of a move whose core has size vertices, of the vertices with label l in the move; the
-- removed facets come first, and that of label 0 is the tetrahedron of the inverse
abbrev pub inverse_label : ℕ → ℕ → ℕ
inverse_label size l = if nat_lt l size then (if l == 0 then 4 else l + (4 - size)) else l - size

-- the label of the inverse move that corresponds to label l of a step
abbrev pub label_back : PlayedMove → Relabelling → ℕ → ℕ
label_back step on l = label_under on (inverse_move step.tets step.played) (inverse_label (length step.played.core) l)

-- the inverse move, the number of tetrahedra that it retains, the facets that it removes, and its label that
-- corresponds to each label of the step
pub record Back : Type 0 where
  pub played : Move
  pub kept : ℕ
  pub facets : List Facet
  pub labels : List ℕ

pub record IsBack (step : PlayedMove) (now : List Row) (on : Relabelling) (back : Back) : Type 0 where
  pub played : back.played ≡ move_under on (inverse_move step.tets step.played)
  pub kept : back.kept ≡ kept now back.played
  pub facets : back.facets ≡ old_facets now back.played
  pub labels : back.labels ≡ map (label_back step on) (below 5)

-- the number of tetrahedron t after facets are removed
abbrev pub number_without : List Facet → ℕ → ℕ
number_without facets t = rank_without (map (λ (f : Facet). f.tet) facets) t

-- the new facet that lacks label j, if kept tetrahedra are retained
abbrev pub put_in : ℕ → ℕ → Facet
put_in kept j = record { tet = kept + j; missing = j; labels = filter (λ l. not (l == j)) (below 5) }

-- the image of a tetrahedron that the step retained, and of one that it removed
abbrev pub retained_image : PlayedMove → Back → Relabelling → ℕ → Gluing
retained_image step back on t =
    record { tet = number_without back.facets (relabelled_place on (number_without step.facets t)).tet; perm = (relabelled_place on (number_without step.facets t)).perm }

abbrev pub facet_image : Back → Facet → Gluing
facet_image back f = by_labels (slice_index back.labels) f (put_in back.kept (slice_index back.labels f.missing))

abbrev pub image_by : PlayedMove → Back → Relabelling → ℕ → Option Facet → Gluing
image_by step back on t None = retained_image step back on t
image_by step back on t (Some f) = facet_image back f

abbrev pub image_at : PlayedMove → Back → Relabelling → ℕ → Gluing
image_at step back on t = image_by step back on t (find (λ (f : Facet). f.tet == t) step.facets)

-- the facet has labels, and its image is a permutation
pub record HasFacetImage (back : Back) (f : Facet) : Type 0 where
  pub missing : f.missing < 5
  pub labels : All (λ l. l < 5) f.labels
  pub permutes : IsPermutationOfFour (facet_image back f).perm

abbrev pub HasImageBy : PlayedMove → Back → Relabelling → ℕ → Option Facet → Type 0
HasImageBy step back on t None = number_without step.facets t < length on.images
HasImageBy step back on t (Some f) = HasFacetImage back f

abbrev pub HasImageAt : PlayedMove → Back → Relabelling → ℕ → Type 0
HasImageAt step back on t = HasImageBy step back on t (find (λ (f : Facet). f.tet == t) step.facets)

-- the relabelling that maps each tetrahedron to its image
pub record IsImageRelabelling (step : PlayedMove) (back : Back) (on : Relabelling) (by : Relabelling) : Type 0 where
  pub relabels : IsRelabelling step.tets by
  pub can : (t : ℕ) → t < step.tets → HasImageAt step back on t
  pub image : (t : ℕ) → t < step.tets → relabelled_place by t ≡ image_at step back on t
