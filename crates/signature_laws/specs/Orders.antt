-- The order in which a walk meets the tetrahedra, face after face.
use Rattle.std.specs.Prelude.{◌≡◌, ◌≢◌, ℕ, zero, suc, ◌*◌, ◌/◌, ◌%◌, ◌<◌, Bool, false, List, [], ◌∷◌, ◌++◌, length, ◌==◌, nat_lt, Option, Some, None, if◌then◌else◌}
use Rattle.std.specs.List.{list_any, slice_index_or}
use Rattle.table_definitions.specs.Permutation.{preimage, inverse, compose}
use Rattle.table_definitions.specs.Table.{Gluing, Row, Face, glue}
use Rattle.table_definitions.specs.Relabelling.{Relabelling, relabelled_place}
use Rattle.signature_definitions.specs.Labellings.{Start}

-- an entry of the order: the tetrahedron with this new number, and the new vertex of each of its vertices
abbrev pub start_at : List Start → ℕ → Start
start_at order i = slice_index_or order i (record { tet = 0; perm = [] })

-- whether a tetrahedron has a new number
abbrev pub is_visited : List Start → ℕ → Bool
is_visited order t = list_any (λ s. s.tet == t) order

-- the start of the tetrahedron across a gluing that makes the gluing the identity
abbrev pub start_across : Start → Gluing → Start
start_across from g = record { tet = g.tet; perm = compose from.perm (inverse g.perm) }

-- the face that is mapped to face f
abbrev pub face_from : Start → ℕ → Face
face_from from f = record { tet = from.tet; face = preimage from.perm f }

-- the tetrahedron across a gluing gets the next number, unless it is visited
abbrev pub follow : Bool → Start → Gluing → List Start → List Start
follow visited from g order = if visited then order else order ++ start_across from g ∷ []

abbrev pub follow_face : Start → Option Gluing → List Start → List Start
follow_face from None order = order
follow_face from (Some g) order = follow (is_visited order g.tet) from g order

-- the face at place k is the face k % 4 of the tetrahedron with the number k / 4
abbrev pub take_face : List Row → ℕ → List Start → List Start
take_face rows k order =
    if nat_lt (k / 4) (length order)
    then follow_face (start_at order (k / 4)) (glue rows (face_from (start_at order (k / 4)) (k % 4))) order else order

-- the order once the first k faces are taken, and once all are
unfoldable pub order_after : List Row → Start → ℕ → List Start
order_after rows start zero = start ∷ []
order_after rows start (suc k) = take_face rows k (order_after rows start k)

abbrev pub whole_order : List Row → Start → List Start
whole_order rows start = order_after rows start (4 * length rows)

-- the marks say which tetrahedra are visited
abbrev pub AreVisited : List Start → List Bool → Type 0
AreVisited order marks = (t : ℕ) → slice_index_or marks t false ≡ is_visited order t

-- what a walk keeps, between two faces
pub record IsWalking (rows : List Row) (order : List Start) (marks : List Bool) : Type 0 where
  pub size : length marks ≡ length rows
  pub visited : AreVisited order marks

-- the order contains each of the n tetrahedra once
pub record IsWholeOrder (n : ℕ) (order : List Start) : Type 0 where
  pub in_range : (i : ℕ) → i < length order → (start_at order i).tet < n
  pub separate : (i j : ℕ) → i < j → j < length order → (start_at order i).tet ≢ (start_at order j).tet
  pub all : (t : ℕ) → t < n → (i : ℕ) × (i < length order) × ((start_at order i).tet ≡ t)

-- each tetrahedron is mapped to its index in the order
abbrev pub Numbers : List Start → Relabelling → Type 0
Numbers order by = (i : ℕ) → i < length order → relabelled_place by (start_at order i).tet ≡ record { tet = i; perm = (start_at order i).perm }
