-- Faces glued to a tetrahedron, as the other sides of its faces.
use Rattle.std.specs.Prelude.{◌≡◌, ◌⊎◌, ℕ, ◌+◌, ◌<◌, false, List, length, Option, Some, None}
use Rattle.std.specs.List.{slice_index_or}
use Rattle.table_definitions.specs.Table.{Gluing, Row, Face, glue, other_side, is_face_before}
use Rattle.presentation_definitions.specs.Trees.{LeadsCloser}

-- near is far less one
abbrev pub IsOneLess : Option ℕ → Option ℕ → Type 0
IsOneLess near far = (d : ℕ) × (near ≡ Some d) × (far ≡ Some (d + 1))

-- y is glued to x, and its tetrahedron is closer to tetrahedron 0
pub record IsCloser (rows : List Row) (x y : Face) : Type 0 where
  pub gluing : Gluing
  pub glued : glue rows x ≡ Some gluing
  pub other : other_side x gluing ≡ y
  pub leads : LeadsCloser rows x.tet y

-- the face glued to x whose tetrahedron is closer to tetrahedron 0, or there is none
abbrev pub IsCloserFace : List Row → Face → Option Face → Type 0
IsCloserFace rows x None = (y : Face) → IsCloser rows x y → ⊥
IsCloserFace rows x (Some y) = IsCloser rows x y

-- x is not after the first face, if there is one
abbrev pub IsNotAfter : Option Face → Face → Type 0
IsNotAfter None x = Unit {0}
IsNotAfter (Some y) x = is_face_before y x ≡ false

-- the first of two faces, if there is any
abbrev pub IsLeastOf : Option Face → Option Face → Option Face → Type 0
IsLeastOf first second None = (first ≡ None) × (second ≡ None)
IsLeastOf first second (Some x) = ((first ≡ Some x) ⊎ (second ≡ Some x)) × IsNotAfter first x × IsNotAfter second x

-- the least face glued to a face of t below n whose tetrahedron is closer to tetrahedron 0, or there is none
abbrev pub IsLeastCloser : List Row → ℕ → ℕ → Option Face → Type 0
IsLeastCloser rows t n None = (f : ℕ) (y : Face) → f < n → IsCloser rows (record { tet = t; face = f }) y → ⊥
IsLeastCloser rows t n (Some x) = LeadsCloser rows t x × ((f : ℕ) (y : Face) → f < n → IsCloser rows (record { tet = t; face = f }) y → is_face_before y x ≡ false)

-- the least face of that kind for the four faces of each tetrahedron, in order
pub record AreLeastCloser (rows : List Row) (faces : List (Option Face)) : Type 0 where
  pub one_each : length faces ≡ length rows
  pub reported : (t : ℕ) → t < length rows → IsLeastCloser rows t 4 (slice_index_or faces t None)
