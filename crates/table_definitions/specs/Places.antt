-- Places in a table, chains of gluings that carry one to another, and the classes of vertices, edges, faces and
-- tetrahedra.
use Rattle.std.specs.Prelude.{◌≡◌, ℕ, ◌*◌, ◌/◌, ◌%◌, ◌<◌, Bool, ◌&&◌, ◌||◌, not, List, [], ◌∷◌, length, map, reverse, ◌⊎◌, ◌==◌, Option, Some, None, option_map, option_and_then, is_none, slice_index, if◌then◌else◌}
use Rattle.std.specs.List.{list_any, list_all, slice_index_or, position_or_len, AllByRecursion}
use Rattle.table_definitions.specs.Lists.{below, has, same_list}
use Rattle.table_definitions.specs.Permutation.{four, image}
use Rattle.table_definitions.specs.Table.{Gluing, Row, Face, glue, other_side, faces}

-- a tetrahedron with some of its vertices, in an order
pub record Place : Type 0 where
  pub tet : ℕ
  pub vertices : List ℕ

-- the vertices of a place are numbers of vertices
abbrev pub IsPlace : Place → Type 0
IsPlace p = AllByRecursion (λ v. v < 4) p.vertices

-- the image of a place of the face under a gluing
abbrev pub carried : Gluing → Place → Place
carried g p = record { tet = g.tet; vertices = map (image g.perm) p.vertices }

-- the place across face f, if the face is glued and has all vertices of this place
abbrev pub across : List Row → Place → ℕ → Option Place
across rows p f = if has p.vertices f then None else option_map (λ g. carried g p) (glue rows (record { tet = p.tet; face = f }))

-- the end of the chain that crosses these faces, one after another
abbrev pub along : List Row → Place → List ℕ → Option Place
along rows p [] = Some p
along rows p (f ∷ fs) = option_and_then (λ q. along rows q fs) (across rows p f)

-- a chain joins one place to the other
abbrev pub IsJoined : List Row → Place → Place → Type 0
IsJoined rows p q = (crossed : List ℕ) × (along rows p crossed ≡ Some q)

-- the same place in the other direction
abbrev pub backwards : Place → Place
backwards p = record p { vertices = reverse p.vertices }

-- the ends of the edges 0 to 5
abbrev pub edge_ends : List (List ℕ)
edge_ends = (0 ∷ 1 ∷ []) ∷ (0 ∷ 2 ∷ []) ∷ (0 ∷ 3 ∷ []) ∷ (1 ∷ 2 ∷ []) ∷ (1 ∷ 3 ∷ []) ∷ (2 ∷ 3 ∷ []) ∷ []

abbrev pub ends : ℕ → List ℕ
ends e = slice_index_or edge_ends e []

-- the number of the edge with these ends
abbrev pub edge_number : ℕ → ℕ → ℕ
edge_number a b = position_or_len (λ e. same_list e (a ∷ b ∷ []) || same_list e (b ∷ a ∷ [])) edge_ends

-- tetrahedron t; vertex i, which is vertex i % 4 of tetrahedron i / 4; edge i, of the six of tetrahedron i / 6; face i
-- likewise
abbrev pub whole : ℕ → Place
whole t = record { tet = t; vertices = [] }

abbrev pub vertex : ℕ → Place
vertex i = record { tet = i / 4; vertices = i % 4 ∷ [] }

abbrev pub edge : ℕ → Place
edge i = record { tet = i / 6; vertices = ends (i % 6) }

abbrev pub face_of : ℕ → Face
face_of i = record { tet = i / 4; face = i % 4 }

-- two tetrahedra, vertices, edges or faces are the same under gluing; an edge in either direction
abbrev pub SameComponent : List Row → ℕ → ℕ → Type 0
SameComponent rows t u = IsJoined rows (whole t) (whole u)

abbrev pub SameVertex : List Row → ℕ → ℕ → Type 0
SameVertex rows i j = IsJoined rows (vertex i) (vertex j)

abbrev pub SameEdge : List Row → ℕ → ℕ → Type 0
SameEdge rows i j = IsJoined rows (edge i) (edge j) ⊎ IsJoined rows (edge i) (backwards (edge j))

abbrev pub SameFace : List Row → ℕ → ℕ → Type 0
SameFace rows i j = (i ≡ j) ⊎ ((g : Gluing) × (glue rows (face_of i) ≡ Some g) × (other_side (face_of i) g ≡ face_of j))

-- a chain joins the edge to its own reverse
abbrev pub IsInvalidEdge : List Row → ℕ → Type 0
IsInvalidEdge rows i = IsJoined rows (edge i) (backwards (edge i))

-- no edge is so
abbrev pub HasValidEdges : List Row → Type 0
HasValidEdges rows = (i : ℕ) → i < 6 * length rows → IsInvalidEdge rows i → ⊥

-- edge i runs against the edge j of its class
abbrev pub RunsAgainst : List Row → ℕ → ℕ → Type 0
RunsAgainst rows j i = IsJoined rows (edge j) (backwards (edge i))

-- whether a face is a boundary face
abbrev pub is_boundary : List Row → Face → Bool
is_boundary rows x = is_none (glue rows x)

-- whether no face is a boundary face
abbrev pub is_closed : List Row → Bool
is_closed rows = list_all (λ x. not (is_boundary rows x)) (faces (length rows))

-- whether edge i lies in a boundary face
abbrev pub lies_in_boundary : List Row → ℕ → Bool
lies_in_boundary rows i =
    list_any (λ f. not (has (ends (i % 6)) f) && is_boundary rows (record { tet = i / 6; face = f })) four

-- whether a member of the edge class c lies in a boundary face
abbrev pub is_boundary_edge : List Row → List ℕ → ℕ → Bool
is_boundary_edge rows classes c = list_any (λ i. (slice_index classes i == c) && lies_in_boundary rows i) (below (length classes))

-- every two tetrahedra are joined
abbrev pub IsConnected : List Row → Type 0
IsConnected rows = (t u : ℕ) → t < length rows → u < length rows → SameComponent rows t u

-- t is the least tetrahedron that no chain joins to tetrahedron 0
pub record IsLeastUnreached (rows : List Row) (t : ℕ) : Type 0 where
  pub in_range : t < length rows
  pub unreached : SameComponent rows 0 t → ⊥
  pub reached_before : (u : ℕ) → u < t → SameComponent rows 0 u
