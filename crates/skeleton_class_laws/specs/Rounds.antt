-- Corners by numbers: corner k is that of tetrahedron k / 24 at the k % 24-th permutation.
use Rattle.std.specs.Prelude.{◌≡◌, ℕ, ◌+◌, ◌*◌, ◌/◌, ◌%◌, List, [], ◌∷◌, map, Bool, Option, option_map}
use Rattle.std.specs.Bool.{MatchBool}
use Rattle.std.specs.List.{slice_index_or}
use Rattle.table_definitions.specs.Permutation.{image, compose, index, words}
use Rattle.table_definitions.specs.Table.{Gluing, Row, glue}
use Rattle.skeleton_definitions.specs.Corners.{Corner}
use Rattle.table_walk_laws.specs.Walks.{IsOrbit}

abbrev pub word_at : ℕ → List ℕ
word_at k = slice_index_or words (k % 24) []

-- the corner with these vertices in an order
abbrev pub corner_by : ℕ → List ℕ → Corner
corner_by t p = record { tet = t; a = image p 0; b = image p 1; c = image p 2; d = image p 3 }

unfoldable pub corner_at : ℕ → Corner
corner_at k = corner_by (k / 24) (word_at k)

-- the four vertices of a corner
abbrev pub corner_word : Corner → List ℕ
corner_word k = k.a ∷ k.b ∷ k.c ∷ k.d ∷ []

-- the exchange of the last two
abbrev pub swap : List ℕ
swap = 0 ∷ 1 ∷ 3 ∷ 2 ∷ []

-- the order of the vertices across a gluing
unfoldable pub word_across : List ℕ → List ℕ → List ℕ
word_across g p = compose (compose g p) swap

-- the number of the next corner
unfoldable pub next_corner : List Row → ℕ → Option ℕ
next_corner rows k = option_map (λ (g : Gluing). 24 * g.tet + index (word_across g.perm (word_at k))) (glue rows (record { tet = k / 24; face = image (word_at k) 2 }))

-- the corner at which the tour around edge i starts
abbrev pub starts : List ℕ
starts = 0 ∷ 2 ∷ 4 ∷ 8 ∷ 10 ∷ 16 ∷ []

abbrev pub start_of : ℕ → ℕ
start_of i = 24 * (i / 6) + slice_index_or starts (i % 6) 0

-- the corners of an orbit
abbrev pub IsTour : (ℕ → Option ℕ) → ℕ → List Corner → Type 0
IsTour next start corners = (places : List ℕ) × IsOrbit next start places × (corners ≡ map corner_at places)

-- the corners of a walk, or none
abbrev pub IsTourUnlessBoundary : (ℕ → Option ℕ) → Bool → ℕ → List Corner → Type 0
IsTourUnlessBoundary next on_boundary edge corners = MatchBool on_boundary (corners ≡ []) (IsTour next (start_of edge) corners)
