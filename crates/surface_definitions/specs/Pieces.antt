-- The pieces of a surface, the arcs in which they end, and the components that meeting arcs join. Coordinates are
-- standard or octagons.
use Rattle.std.specs.Prelude.{◌≡◌, ℕ, ◌-◌, ◌%◌, ◌<◌, ◌≢◌, Bool, ◌&&◌, ◌||◌, not, List, [], ◌∷◌, length, map, ◌==◌, nat_lt, Some, sum_by, count_by, slice_index, if◌then◌else◌}
use Rattle.std.specs.List.{flat_map, position_or_len, slice_index_or}
use Rattle.table_definitions.specs.Lists.{below}
use Rattle.table_definitions.specs.Permutation.{image, is_odd}
use Rattle.table_definitions.specs.Table.{Gluing, Row, glue}
use Rattle.surface_definitions.specs.Coordinates.{before_octagons, columns_each, tri_column, quad_column, partner, keeping, octagon_arcs, arc_columns}
use Rattle.surface_definitions.specs.declared.Coords.{Coords}
use Rattle.table_definitions.specs.Classes.{IsNumbering}

-- a piece: its column, and its number among the pieces of that column
pub record NormalDisc : Type 0 where
  pub column : ℕ
  pub number : ℕ

-- all pieces of a vector, ascending
abbrev pub discs_of : List ℕ → List NormalDisc
discs_of xs = flat_map (λ c. map (λ i. record { column = c; number = i }) (below (slice_index xs c))) (below (length xs))

-- the arc around vertex v of face f of tetrahedron t with the given index, counted from v
pub record Arc : Type 0 where
  pub tet : ℕ
  pub face : ℕ
  pub vertex : ℕ
  pub place : ℕ

-- the number of arcs around a vertex of a face
abbrev pub arcs_around : Coords → List ℕ → ℕ → ℕ → ℕ → ℕ
arcs_around coords xs t f v = sum_by (slice_index xs) (arc_columns coords t f v)

-- the column of the arcs after those of triangles: the quad, or an octagon if one is nonzero
abbrev pub further_column : Coords → List ℕ → Arc → ℕ
further_column coords xs a =
    slice_index_or (octagon_arcs coords a.tet a.face a.vertex)
    (position_or_len (λ c. nat_lt 0 (slice_index xs c)) (octagon_arcs coords a.tet a.face a.vertex))
    (quad_column coords a.tet (keeping a.vertex a.face))

-- the type 0, 1 or 2 of the quad or octagon in a column
abbrev pub type_in : Coords → ℕ → ℕ
type_in coords c =
    if nat_lt (c % columns_each coords) (before_octagons coords) then c % columns_each coords - 4
    else c % columns_each coords - before_octagons coords

-- whether a type keeps v on the side of vertex 0
abbrev pub keeps_by_zero : ℕ → ℕ → Bool
keeps_by_zero k v = (v == 0) || (partner k v == 0)

-- the number of triangles around the vertex of an arc
abbrev pub triangles_around : Coords → List ℕ → Arc → ℕ
triangles_around coords xs a = slice_index xs (tri_column coords a.tet a.vertex)

abbrev pub is_triangle_arc : Coords → List ℕ → Arc → Bool
is_triangle_arc coords xs a = nat_lt a.place (triangles_around coords xs a)

-- the quad or octagon whose arc this is: numbers count from the side of vertex 0, and places from the side of v
abbrev pub further_piece : List ℕ → ℕ → ℕ → Bool → NormalDisc
further_piece xs c j by_zero = record { column = c; number = if by_zero then j else slice_index xs c - 1 - j }

-- the piece whose arc this is
abbrev pub disc_of : Coords → List ℕ → Arc → NormalDisc
disc_of coords xs a =
    if is_triangle_arc coords xs a then record { column = tri_column coords a.tet a.vertex; number = a.place }
    else further_piece xs (further_column coords xs a) (a.place - triangles_around coords xs a)
    (keeps_by_zero (type_in coords (further_column coords xs a)) a.vertex)

-- whether the piece looks at v with its positive side: a triangle's is that of its vertex, and another's that of vertex
-- 0
abbrev pub looks_positive : Coords → List ℕ → Arc → Bool
looks_positive coords xs a = is_triangle_arc coords xs a || keeps_by_zero (type_in coords (further_column coords xs a)) a.vertex

-- the arc that meets an arc across a gluing of its face
abbrev pub arc_across : Gluing → Arc → Arc
arc_across g a = record { tet = g.tet; face = image g.perm a.face; vertex = image g.perm a.vertex; place = a.place }

-- an arc of the surface, in a face that is glued by g
pub record Meets (rows : List Row) (coords : Coords) (xs : List ℕ) (a : Arc) (g : Gluing) : Type 0 where
  pub in_range : a.tet < length rows
  pub is_vertex : a.vertex < 4
  pub off_vertex : a.vertex ≢ a.face
  pub there : a.place < arcs_around coords xs a.tet a.face a.vertex
  pub glued : glue rows (record { tet = a.tet; face = a.face }) ≡ Some g

-- a chain of meeting arcs joins disc p to disc q
abbrev pub ArcsLead : List Row → Coords → List ℕ → NormalDisc → List Arc → NormalDisc → Type 0
ArcsLead rows coords xs p [] q = p ≡ q
ArcsLead rows coords xs p (a ∷ more) q =
    (g : Gluing) × Meets rows coords xs a g × (disc_of coords xs a ≡ p) × ArcsLead rows coords xs (disc_of coords xs (arc_across g a)) more q

-- two of the pieces, by their places in the list of all, are in one component
abbrev pub SamePiece : List Row → Coords → List ℕ → ℕ → ℕ → Type 0
SamePiece rows coords xs i j =
    (arcs : List Arc) × ArcsLead rows coords xs (slice_index_or (discs_of xs) i (record { column = 0; number = 0 })) arcs
    (slice_index_or (discs_of xs) j (record { column = 0; number = 0 }))

-- components names the component of each piece
abbrev pub AreComponents : List Row → Coords → List ℕ → List ℕ → ℕ → Type 0
AreComponents rows coords xs components count = IsNumbering (length (discs_of xs)) (SamePiece rows coords xs) components count

-- the number of the piece in the list of all
abbrev pub disc_number : List ℕ → NormalDisc → ℕ
disc_number xs p = position_or_len (λ (q : NormalDisc). (q.column == p.column) && (q.number == p.number)) (discs_of xs)

-- whether disc i is of column c and of this component
abbrev pub is_counted : List ℕ → List ℕ → ℕ → ℕ → ℕ → Bool
is_counted xs components component c i =
    ((slice_index_or (discs_of xs) i (record { column = 0; number = 0 })).column == c) && (slice_index components i == component)

-- the number of a component's pieces in each column
abbrev pub component_vector : List ℕ → List ℕ → ℕ → List ℕ
component_vector xs components component =
    map (λ c. count_by (is_counted xs components component c) (below (length components))) (below (length xs))

abbrev pub keeps_sides : Coords → List ℕ → Arc → Gluing → Bool
keeps_sides coords xs a g = if looks_positive coords xs a then looks_positive coords xs (arc_across g a) else not (looks_positive coords xs (arc_across g a))

-- signs of the discs that are equal on both sides of an arc of the component if and only if the test passes there
abbrev pub HasSigns : List Row → Coords → List ℕ → List ℕ → ℕ → (Arc → Gluing → Bool) → Type 0
HasSigns rows coords xs components component stays =
    (sign : ℕ → Bool) × ((a : Arc) (g : Gluing) → Meets rows coords xs a g → slice_index components (disc_number xs (disc_of coords xs a)) ≡ component
    → sign (disc_number xs (disc_of coords xs (arc_across g a)))
    ≡ (if stays a g then sign (disc_number xs (disc_of coords xs a)) else not (sign (disc_number xs (disc_of coords xs a)))))

abbrev pub IsTwoSided : List Row → Coords → List ℕ → List ℕ → ℕ → Type 0
IsTwoSided rows coords xs components component = HasSigns rows coords xs components component (keeps_sides coords xs)

-- signs are equal if and only if sides are kept and the gluing is odd, or sides are not kept and it is even
abbrev pub IsOrientableComponent : List Row → Coords → List ℕ → List ℕ → ℕ → Type 0
IsOrientableComponent rows coords xs components component =
    HasSigns rows coords xs components component (λ a g. if is_odd g.perm then keeps_sides coords xs a g else not (keeps_sides coords xs a g))
