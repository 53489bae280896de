-- What lies across the faces of a tetrahedron, by numbers.
use Rattle.std.specs.Prelude.{ℕ, ◌+◌, ◌-◌, nat_lt, ◌*◌, List, [], ◌∷◌, ◌==◌, Option, None, option_map, slice_index, if◌then◌else◌}
use Rattle.table_definitions.specs.Table.{Row, glue, other_side, face_number}
use Rattle.table_definitions.specs.Places.{Place, across, vertex, edge, edge_number, face_of}
use Rattle.skeleton_definitions.specs.Links.{directed}

-- the number of a vertex, and of a face
abbrev pub vertex_at : Place → ℕ
vertex_at q = 4 * q.tet + slice_index q.vertices 0

-- the vertex across face f that vertex i is glued to
unfoldable pub crossed_vertex : List Row → ℕ → ℕ → Option ℕ
crossed_vertex rows i f = option_map vertex_at (across rows (vertex i) f)

-- the face that face i is glued to, as the first of the four neighbours of i
unfoldable pub crossed_face : List Row → ℕ → ℕ → Option ℕ
crossed_face rows i f = if f == 0 then option_map (λ g. face_number (other_side (face_of i) g)) (glue rows (face_of i)) else None

-- a place of two vertices
abbrev pub pair : ℕ → ℕ → ℕ → Place
pair t a b = record { tet = t; vertices = a ∷ b ∷ [] }

-- the number of an edge in either direction, and of a directed edge
abbrev pub edge_at : Place → ℕ
edge_at q = 6 * q.tet + edge_number (slice_index q.vertices 0) (slice_index q.vertices 1)

abbrev pub pair_number : ℕ → ℕ → ℕ
pair_number v w = 3 * v + (if nat_lt v w then w - 1 else w)

abbrev pub direction_at : Place → ℕ
direction_at q = 12 * q.tet + pair_number (slice_index q.vertices 0) (slice_index q.vertices 1)

unfoldable pub crossed_edge : List Row → ℕ → ℕ → Option ℕ
crossed_edge rows i f = option_map edge_at (across rows (edge i) f)

unfoldable pub crossed_direction : List Row → ℕ → ℕ → Option ℕ
crossed_direction rows i f = option_map direction_at (across rows (directed i) f)
