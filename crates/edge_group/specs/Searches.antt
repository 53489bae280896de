-- Marks of a breadth-first search from tetrahedron 0: a tetrahedron is marked with its distance.
use Rattle.std.specs.Prelude.{◌≡◌, ℕ, ◌+◌, ◌<◌, ◌≤◌, ◌⊎◌, ◌↔◌, List, ◌++◌, length, Option, Some, None, Contains, count_by, is_none}
use Rattle.std.specs.List.{slice_index_or}
use Rattle.table_definitions.specs.Table.{Gluing, Row, Face, glue}
use Rattle.presentation_definitions.specs.Trees.{IsDistance}

-- the mark of a tetrahedron
abbrev pub mark_of : List (Option ℕ) → ℕ → Option ℕ
mark_of marks t = slice_index_or marks t None

-- the number of tetrahedra without a mark
abbrev pub unmarked : List (Option ℕ) → ℕ
unmarked marks = count_by is_none marks

-- a face of the set is glued to t
pub record IsAcross (rows : List Row) (Crossed : Face → Type 0) (t : ℕ) : Type 0 where
  pub face : Face
  pub crossed : Crossed face
  pub gluing : Gluing
  pub glued : glue rows face ≡ Some gluing
  pub to : gluing.tet ≡ t

-- the tetrahedra across the faces of the set that had no mark are marked with distance and listed in added
pub record IsGrown (rows : List Row) (Crossed : Face → Type 0) (distance : ℕ) (old new : List (Option ℕ)) (added : List ℕ) : Type 0 where
  pub one_each : length new ≡ length old
  pub kept : (t j : ℕ) → mark_of old t ≡ Some j → mark_of new t ≡ Some j
  pub marked : (t j : ℕ) → mark_of new t ≡ Some j → (mark_of old t ≡ Some j) ⊎ (Contains added t × (j ≡ distance))
  pub fresh : (t : ℕ) → Contains added t → (mark_of old t ≡ None) × (mark_of new t ≡ Some distance) × IsAcross rows Crossed t
  pub all : (x : Face) (g : Gluing) → Crossed x → glue rows x ≡ Some g → (j : ℕ) × (mark_of new g.tet ≡ Some j)
  pub count : unmarked new + length added ≡ unmarked old

-- IsGrown, with the tetrahedra appended to a list
pub record HasGrown (rows : List Row) (Crossed : Face → Type 0) (distance : ℕ) (old new : List (Option ℕ)) (pending next : List ℕ) : Type 0 where
  pub added : List ℕ
  pub appended : next ≡ pending ++ added
  pub grown : IsGrown rows Crossed distance old new added

-- sets of faces: one face, the faces of a tetrahedron, its faces below f, and the faces of the tetrahedra of a list
abbrev pub IsFace : Face → Face → Type 0
IsFace y x = x ≡ y

abbrev pub IsFaceOf : ℕ → Face → Type 0
IsFaceOf t x = x.tet ≡ t

abbrev pub IsFaceBelow : ℕ → ℕ → Face → Type 0
IsFaceBelow t f x = (x.tet ≡ t) × (x.face < f)

abbrev pub IsFaceOfSome : List ℕ → Face → Type 0
IsFaceOfSome ts x = Contains ts x.tet

-- the tetrahedra up to a distance are marked with their distances, and the level has those at that distance
pub record IsSearched (rows : List Row) (distance : ℕ) (marks : List (Option ℕ)) (level : List ℕ) : Type 0 where
  pub one_each : length marks ≡ length rows
  pub reported : (t j : ℕ) → t < length rows → (mark_of marks t ≡ Some j) ↔ (IsDistance rows t j × (j ≤ distance))
  pub at_level : (t : ℕ) → Contains level t ↔ ((t < length rows) × IsDistance rows t distance)

-- each tetrahedron that has a distance is marked with it
pub record AreDistances (rows : List Row) (marks : List (Option ℕ)) : Type 0 where
  pub one_each : length marks ≡ length rows
  pub reported : (t j : ℕ) → t < length rows → (mark_of marks t ≡ Some j) ↔ IsDistance rows t j
