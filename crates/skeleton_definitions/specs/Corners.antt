-- Tours around an edge.
use Rattle.std.specs.Prelude.{◌≡◌, ℕ, ◌/◌, ◌%◌, ◌<◌, ◌≢◌, zero, suc, not, ◌↔◌, List, [], ◌∷◌, length, filter, Option, Some, option_map, option_and_then, slice_index, Contains}
use Rattle.std.specs.List.{slice_index_or}
use Rattle.table_definitions.specs.Lists.{below, has}
use Rattle.table_definitions.specs.Permutation.{four, image}
use Rattle.table_definitions.specs.Table.{Gluing, Row, Face, glue}
use Rattle.table_definitions.specs.Places.{ends, is_boundary_edge}

-- the edge ab of a tetrahedron, and the faces c and d that meet in it: the walk comes through face d and leaves through
-- face c
pub record Corner : Type 0 where
  pub tet : ℕ
  pub a : ℕ
  pub b : ℕ
  pub c : ℕ
  pub d : ℕ

-- the face through which the walk leaves a corner, and that through which it came
abbrev pub left_through : Corner → Face
left_through k = record { tet = k.tet; face = k.c }

abbrev pub came_through : Corner → Face
came_through k = record { tet = k.tet; face = k.d }

-- the corner across face c
abbrev pub corner_across : Corner → Gluing → Corner
corner_across k g = record { tet = g.tet; a = image g.perm k.a; b = image g.perm k.b; c = image g.perm k.d; d = image g.perm k.c }

-- the next corner, if face c is glued
abbrev pub step : List Row → Corner → Option Corner
step rows k = option_map (corner_across k) (glue rows (left_through k))

-- the corner after n steps
abbrev pub steps : List Row → ℕ → Corner → Option Corner
steps rows zero k = Some k
steps rows (suc n) k = option_and_then (λ l. steps rows n l) (step rows k)

abbrev pub Reaches : List Row → Corner → Corner → Type 0
Reaches rows k l = (n : ℕ) × (steps rows n k ≡ Some l)

-- the corner of edge i at which the walk starts: a < b and c < d
abbrev pub corner_of : ℕ → List ℕ → List ℕ → Corner
corner_of t edge rest = record { tet = t; a = slice_index edge 0; b = slice_index edge 1; c = slice_index rest 0; d = slice_index rest 1 }

abbrev pub first_corner : ℕ → Corner
first_corner i = corner_of (i / 6) (ends (i % 6)) (filter (λ v. not (has (ends (i % 6)) v)) four)

-- the steps from corner k visit each corner of the list in order and then `first`, which is not in the list
abbrev pub GoesAround : List Row → Corner → Corner → List Corner → Type 0
GoesAround rows first k [] = step rows k ≡ Some first
GoesAround rows first k (l ∷ ls) = (step rows k ≡ Some l) × (l ≢ first) × GoesAround rows first l ls

-- the walk from a corner until it is back
abbrev pub IsTourFrom : List Row → Corner → List Corner → Type 0
IsTourFrom rows first [] = ⊥
IsTourFrom rows first (k ∷ ks) = (k ≡ first) × GoesAround rows first k ks

-- all corners that steps reach from the first, each once
pub record AreCorners (rows : List Row) (first : Corner) (corners : List Corner) : Type 0 where
  pub reached : (k : Corner) → Contains corners k ↔ Reaches rows first k
  pub once : (i j : ℕ) → i < j → j < length corners → slice_index_or corners i first ≢ slice_index_or corners j first

-- the internal edge classes, ascending
abbrev pub internal_edges : List Row → List ℕ → ℕ → List ℕ
internal_edges rows classes count = filter (λ c. not (is_boundary_edge rows classes c)) (below count)
