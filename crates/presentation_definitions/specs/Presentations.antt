-- Generators, which are the internal faces outside the tree, and relators, which are read around the internal edges.
use Rattle.std.specs.Prelude.{◌≡◌, ℕ, ◌+◌, ◌<◌, Bool, not, List, ◌∷◌, [], ◌==◌, Option, Some, None, filter_map, slice_index, if◌then◌else◌, ◌↔◌}
use Rattle.std.specs.List.{AllPairs, AllZip, Contains, position_or_len}
use Rattle.table_definitions.specs.Lists.{has}
use Rattle.table_definitions.specs.Table.{Gluing, Row, Face, glue, face_number}
use Rattle.table_definitions.specs.Classes.{least, is_least, degree}
use Rattle.table_definitions.specs.Places.{face_of}
use Rattle.skeleton_definitions.specs.Corners.{Corner, internal_edges, left_through}
use Rattle.skeleton_definitions.specs.Skeleton.{Skeleton, IsAround}
use Rattle.presentation_definitions.specs.declared.Letter.{Letter}
use Rattle.presentation_definitions.specs.Trees.{IsTreeFace, IsTreePath, evens, is_odd_number}

-- a face of the class is a tree face
abbrev pub HoldsTreeFace : Skeleton → ℕ → Type 0
HoldsTreeFace s c = (t : ℕ) × (x : Face) × IsTreeFace s.rows t x × (slice_index s.faces.classes (face_number x) ≡ c)

-- the classes of two faces that hold no tree face, ascending
pub record AreGenerators (s : Skeleton) (generators : List ℕ) : Type 0 where
  pub ascending : AllPairs (λ c d. c < d) generators
  pub members : (c : ℕ) → Contains generators c ↔ ((c < s.faces.count) × (degree s.faces.classes c ≡ 2) × (¬ HoldsTreeFace s c))

-- the letter of a face: none if its class is no generator; the generator at the first face of the class, and the
-- inverse at the second one
abbrev pub letter_of : Skeleton → List ℕ → ℕ → Option Letter
letter_of s generators i =
    if has generators (slice_index s.faces.classes i)
    then Some (record { generator = position_or_len (λ c. c == slice_index s.faces.classes i) generators + 1; inverse = not (is_least s.faces.classes i) }) else None

-- the letters of the faces that a tour around an edge class crosses
pub record IsRelator (s : Skeleton) (generators : List ℕ) (c : ℕ) (letters : List Letter) : Type 0 where
  pub corners : List Corner
  pub around : IsAround s c corners
  pub read : letters ≡ filter_map (λ k. letter_of s generators (face_number (left_through k))) corners

-- a face reverses orientation if the loop from tetrahedron 0 through tree faces to the face, across it, and back
-- through tree faces has an odd number of even gluings
pub record IsTurningFace (rows : List Row) (x : Face) (turns : Bool) : Type 0 where
  pub gluing : Gluing
  pub glued : glue rows x ≡ Some gluing
  pub forth : List Face
  pub forth_path : IsTreePath rows x.tet forth
  pub back : List Face
  pub back_path : IsTreePath rows gluing.tet back
  pub odd : turns ≡ is_odd_number (evens rows forth + evens rows (x ∷ []) + evens rows back)

-- a face class reverses orientation if its first face does
abbrev pub IsTurning : Skeleton → ℕ → Bool → Type 0
IsTurning s c turns = IsTurningFace s.rows (face_of (least s.faces.classes c)) turns

-- the generators, with whether they reverse orientation, and the internal edge classes with their relators
pub record Presentation : Type 0 where
  pub generators : List ℕ
  pub turning : List Bool
  pub edges : List ℕ
  pub relators : List (List Letter)

pub record IsPresentation (s : Skeleton) (p : Presentation) : Type 0 where
  pub generators : AreGenerators s p.generators
  pub turning : AllZip (IsTurning s) p.generators p.turning
  pub edges : p.edges ≡ internal_edges s.rows s.edges.classes s.edges.count
  pub relators : AllZip (IsRelator s p.generators) p.edges p.relators
