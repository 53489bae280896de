-- The Euler characteristic of a surface: points less arcs plus pieces. Coordinates are standard or octagons.
use Rattle.std.specs.Prelude.{ℕ, ◌/◌, ◌%◌, Bool, ◌&&◌, not, List, [], ◌∷◌, length, map, filter, ◌==◌, nat_lt, sum_by, slice_index, if◌then◌else◌}
use Rattle.std.specs.List.{list_all, list_any}
use Rattle.table_definitions.specs.Lists.{below}
use Rattle.table_definitions.specs.Table.{Row, Face, glue, faces}
use Rattle.surface_definitions.specs.Coordinates.{has_octagons, quad_column, oct_column, tri_column, keeping, three, is_quad_or_octagon}
use Rattle.surface_definitions.specs.declared.Coords.{Coords}
use Rattle.table_definitions.specs.Permutation.{others}
use Rattle.table_definitions.specs.Classes.{least}
use Rattle.table_definitions.specs.Places.{ends, is_boundary}
use Rattle.skeleton_definitions.specs.Links.{is_first_side}
use Rattle.surface_definitions.specs.Pieces.{arcs_around}

-- the columns that meet the edge ab, as often as they do so: the octagon of its type twice
abbrev pub octagon_crossings : Coords → ℕ → ℕ → List ℕ
octagon_crossings coords t k = if has_octagons coords then oct_column coords t k ∷ map (oct_column coords t) three else []

abbrev pub crossings : Coords → ℕ → ℕ → ℕ → List ℕ
crossings coords t a b =
    tri_column coords t a ∷ tri_column coords t b ∷ quad_crossings (filter (λ k. not (k == keeping a b)) three)
  where
    quad_crossings : List ℕ → List ℕ
    quad_crossings [] = octagon_crossings coords t (keeping a b)
    quad_crossings (k ∷ ks) = quad_column coords t k ∷ quad_crossings ks

-- how often the surface meets edge i
abbrev pub weight : Coords → List ℕ → ℕ → ℕ
weight coords xs i = sum_by (slice_index xs) (crossings coords (i / 6) (slice_index (ends (i % 6)) 0) (slice_index (ends (i % 6)) 1))

-- the weights of the edge classes, each at its least member
abbrev pub points : Coords → List ℕ → List ℕ → ℕ → ℕ
points coords xs classes count = sum_by (λ c. weight coords xs (least classes c)) (below count)

-- the arcs in a face
abbrev pub arcs_in : Coords → List ℕ → Face → ℕ
arcs_in coords xs x = sum_by (arcs_around coords xs x.tet x.face) (others x.face)

-- the arcs in all faces, two glued ones counted once
abbrev pub arcs : List Row → Coords → List ℕ → ℕ
arcs rows coords xs = sum_by (arcs_in coords xs) (filter (λ x. is_first_side x (glue rows x)) (faces (length rows)))

-- whether each quad and each octagon is 0
abbrev pub is_linking : Coords → List ℕ → Bool
is_linking coords xs = list_all (λ c. not (is_quad_or_octagon coords c && nat_lt 0 (slice_index xs c))) (below (length xs))

-- whether a boundary face has an arc
abbrev pub meets_boundary : List Row → Coords → List ℕ → Bool
meets_boundary rows coords xs = list_any (λ x. is_boundary rows x && nat_lt 0 (arcs_in coords xs x)) (faces (length rows))
