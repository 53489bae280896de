-- Face classes: their least faces, those of tree faces, and the generators among them.
use Rattle.std.specs.Prelude.{◌≡◌, ℕ, ◌+◌, ◌*◌, ◌<◌, ◌↔◌, Bool, true, false, List, length, ◌==◌, Option, Some, None, slice_index, if◌then◌else◌}
use Rattle.std.specs.List.{slice_index_or, AllPairs, Contains, position_or_len}
use Rattle.table_definitions.specs.Lists.{has}
use Rattle.table_definitions.specs.Table.{Row, Face, face_number}
use Rattle.table_definitions.specs.Classes.{least, degree}
use Rattle.skeleton_definitions.specs.Corners.{Corner}
use Rattle.skeleton_definitions.specs.Skeleton.{Skeleton}
use Rattle.presentation_definitions.specs.Trees.{IsTreeFace}
use Rattle.presentation_definitions.specs.Presentations.{HoldsTreeFace}

-- the number of the least face of each class
pub record AreLeastFaces (s : Skeleton) (firsts : List ℕ) : Type 0 where
  pub one_each : length firsts ≡ s.faces.count
  pub least_member : (c : ℕ) → c < s.faces.count → slice_index firsts c ≡ least s.faces.classes c
  pub in_range : (c : ℕ) → c < s.faces.count → slice_index firsts c < 4 * length s.rows

-- a face of the class is the tree face of a tetrahedron below n
pub record HoldsTreeFaceBelow (s : Skeleton) (n c : ℕ) : Type 0 where
  pub tet : ℕ
  pub below : tet < n
  pub face : Face
  pub tree_face : IsTreeFace s.rows tet face
  pub class : slice_index s.faces.classes (face_number face) ≡ c

-- which classes hold one
pub record AreTreeClassesBelow (s : Skeleton) (n : ℕ) (marks : List Bool) : Type 0 where
  pub one_each : length marks ≡ s.faces.count
  pub reported : (c : ℕ) → (slice_index_or marks c false ≡ true) ↔ HoldsTreeFaceBelow s n c

-- which classes hold a tree face
pub record AreTreeClasses (s : Skeleton) (marks : List Bool) : Type 0 where
  pub one_each : length marks ≡ s.faces.count
  pub reported : (c : ℕ) → (slice_index_or marks c false ≡ true) ↔ HoldsTreeFace s c

-- a class of two faces that hold no tree face
abbrev pub IsGenerator : Skeleton → ℕ → Type 0
IsGenerator s c = (degree s.faces.classes c ≡ 2) × (¬ HoldsTreeFace s c)

-- those below class n, ascending
pub record AreGeneratorsBelow (s : Skeleton) (n : ℕ) (generators : List ℕ) : Type 0 where
  pub ascending : AllPairs (λ c d. c < d) generators
  pub members : (c : ℕ) → Contains generators c ↔ ((c < n) × IsGenerator s c)

-- the number of a class among the generators
abbrev pub generator_number : List ℕ → ℕ → Option ℕ
generator_number generators class = if has generators class then Some (position_or_len (λ c. c == class) generators + 1) else None

-- the face through which the walk leaves a corner is in range
abbrev pub LeavesInRange : List Row → Corner → Type 0
LeavesInRange rows k = (k.tet < length rows) × (k.c < 4)
