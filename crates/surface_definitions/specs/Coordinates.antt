-- The columns of a vector: triangles, quads and octagons of each tetrahedron.
use Rattle.std.specs.Prelude.{ℕ, ◌+◌, ◌*◌, ◌/◌, ◌%◌, ◌<◌, Bool, true, false, ◌&&◌, ◌||◌, not, List, [], ◌∷◌, map, filter, ◌==◌, nat_lt, nat_le, Option, Some, None, option_map, if◌then◌else◌}
use Rattle.std.specs.List.{position_or_len, slice_index_or}
use Rattle.table_definitions.specs.Lists.{below, pairs_of}
use Rattle.table_definitions.specs.Permutation.{image}
use Rattle.surface_definitions.specs.declared.Coords.{Coords}
use Rattle.surface_definitions.specs.declared.Coords.TheVariants.{Standard, Quad, Octagon}
use Rattle.surface_definitions.specs.declared.Piece.{Piece}
use Rattle.surface_definitions.specs.declared.Piece.TheVariants as pieces

-- whether the coordinates count triangles, and whether they count octagons; all count quads
abbrev pub has_triangles : Coords → Bool
has_triangles Standard = true
has_triangles Quad = false
has_triangles Octagon = true

abbrev pub has_octagons : Coords → Bool
has_octagons Standard = false
has_octagons Quad = false
has_octagons Octagon = true

-- the number of columns of a tetrahedron before its quads, which are those of its triangles
abbrev pub triangles_each : Coords → ℕ
triangles_each coords = if has_triangles coords then 4 else 0

-- the number of columns of a tetrahedron before its octagons, which are those of its triangles and quads
abbrev pub before_octagons : Coords → ℕ
before_octagons coords = triangles_each coords + 3

-- the number of octagon columns of a tetrahedron
abbrev pub octagons_each : Coords → ℕ
octagons_each coords = if has_octagons coords then 3 else 0

-- the columns of one tetrahedron
abbrev pub columns_each : Coords → ℕ
columns_each coords = before_octagons coords + octagons_each coords

-- the columns of n tetrahedra
abbrev pub columns : Coords → ℕ → ℕ
columns coords n = columns_each coords * n

-- whether the coordinates have such a piece
abbrev pub HasPiece : Coords → Piece → Type 0
HasPiece coords (pieces.Tri v) = v < triangles_each coords
HasPiece coords (pieces.Quad k) = k < 3
HasPiece coords (pieces.Oct k) = k < octagons_each coords

-- the index of a disc type among the columns of its tetrahedron, if it has one
abbrev pub local_column : Coords → Piece → Option ℕ
local_column coords (pieces.Tri v) = if nat_lt v (triangles_each coords) then Some v else None
local_column coords (pieces.Quad k) = if nat_lt k 3 then Some (triangles_each coords + k) else None
local_column coords (pieces.Oct k) = if nat_lt k (octagons_each coords) then Some (before_octagons coords + k) else None

-- the column of a disc type of tetrahedron t, if the coordinates have it
abbrev pub column_of : Coords → ℕ → Piece → Option ℕ
column_of coords t piece = option_map (λ place. columns_each coords * t + place) (local_column coords piece)

-- the columns of the pieces by name
abbrev pub tri_column : Coords → ℕ → ℕ → ℕ
tri_column coords t v = columns_each coords * t + v

abbrev pub quad_column : Coords → ℕ → ℕ → ℕ
quad_column coords t k = columns_each coords * t + triangles_each coords + k

abbrev pub oct_column : Coords → ℕ → ℕ → ℕ
oct_column coords t k = columns_each coords * t + before_octagons coords + k

-- which vertices the types 01/23, 02/13 and 03/12 keep on one side
abbrev pub partners : List (List ℕ)
partners = (1 ∷ 0 ∷ 3 ∷ 2 ∷ []) ∷ (2 ∷ 3 ∷ 0 ∷ 1 ∷ []) ∷ (3 ∷ 2 ∷ 1 ∷ 0 ∷ []) ∷ []

-- the vertex that type k keeps on the side of v
abbrev pub partner : ℕ → ℕ → ℕ
partner k v = image (slice_index_or partners k []) v

-- the type that keeps x and y on one side
abbrev pub keeping : ℕ → ℕ → ℕ
keeping x y = position_or_len (λ p. image p x == y) partners

abbrev pub three : List ℕ
three = 0 ∷ 1 ∷ 2 ∷ []

-- the types of the octagons that the coordinates count
abbrev pub octagon_types : Coords → List ℕ
octagon_types coords = if has_octagons coords then three else []

-- the columns of the octagons with an arc around v in face f
abbrev pub octagon_arcs : Coords → ℕ → ℕ → ℕ → List ℕ
octagon_arcs coords t f v = map (oct_column coords t) (filter (λ k. not (k == keeping v f)) (octagon_types coords))

-- the columns of the discs with an arc around v in face f of tetrahedron t
abbrev pub arc_columns : Coords → ℕ → ℕ → ℕ → List ℕ
arc_columns coords t f v = tri_column coords t v ∷ quad_column coords t (keeping v f) ∷ octagon_arcs coords t f v

-- whether a column is that of a quad or an octagon, and whether of an octagon
abbrev pub is_quad_or_octagon : Coords → ℕ → Bool
is_quad_or_octagon coords c = nat_le (triangles_each coords) (c % columns_each coords)

abbrev pub is_octagon : Coords → ℕ → Bool
is_octagon coords c = nat_le (before_octagons coords) (c % columns_each coords)

-- whether two columns clash: quads or octagons of one tetrahedron, or any two octagons
abbrev pub clash_test : Coords → ℕ → ℕ → Bool
clash_test coords a b =
    (is_octagon coords a && is_octagon coords b)
    || ((a / columns_each coords == b / columns_each coords) && is_quad_or_octagon coords a && is_quad_or_octagon coords b)

-- all clashing pairs of n tetrahedra, the smaller column first, ascending
unfoldable pub clash_list : Coords → ℕ → List (ℕ × ℕ)
clash_list coords n =
    filter (λ p. nat_lt p.0 p.1 && clash_test coords p.0 p.1) (pairs_of (below (columns coords n)) (below (columns coords n)))
