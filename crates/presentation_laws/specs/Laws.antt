-- Laws of trees of faces, generators and relators.
use Rattle.std.specs.Prelude.{◌≡◌, ◌≢◌, ℕ, ◌+◌, ◌-◌, ◌<◌, Bool, false, List, length, count_by, ◌↔◌}
use Rattle.std.specs.List.{slice_index_or, All, AllPairs, Contains}
use Rattle.table_definitions.specs.Table.{Row, Face, IsTable}
use Rattle.table_definitions.specs.Places.{IsConnected}
use Rattle.skeleton_definitions.specs.Orientation.{IsOrientable}
use Rattle.skeleton_definitions.specs.Skeleton.{Skeleton, IsSkeleton}
use Rattle.presentation_definitions.specs.Trees.{IsTreeFace, IsTreePath, is_odd_number}
use Rattle.presentation_definitions.specs.declared.Letter.{Letter}
use Rattle.presentation_definitions.specs.Presentations.{Presentation, IsPresentation}

-- in a connected table tree faces lead from tetrahedron 0 to each other one, in one way
abbrev pub TreeFacesLead : Type 0
TreeFacesLead = (rows : List Row) (t : ℕ) → IsTable rows → IsConnected rows → t < length rows → (xs : List Face) × IsTreePath rows t xs

abbrev pub OneTreePath : Type 0
OneTreePath = (rows : List Row) (t : ℕ) (xs ys : List Face) → IsTreePath rows t xs → IsTreePath rows t ys → xs ≡ ys

-- the tree faces, each once, one for each tetrahedron other than 0
pub record AreTreeFaces (rows : List Row) (xs : List Face) : Type 0 where
  pub count : length xs + 1 ≡ length rows
  pub each : (k : ℕ) (d : Face) → k < length xs → IsTreeFace rows (k + 1) (slice_index_or xs k d)
  pub separate : AllPairs (λ x y. x ≢ y) xs
  pub all : (t : ℕ) (x : Face) → IsTreeFace rows t x → Contains xs x

-- a connected table with a tetrahedron has as many tree faces as tetrahedra but one
abbrev pub TreeFacesAreCounted : Type 0
TreeFacesAreCounted = (rows : List Row) → IsTable rows → IsConnected rows → 0 < length rows → (xs : List Face) × AreTreeFaces rows xs

-- whether the generator of a letter turns
abbrev pub turns : Presentation → Letter → Bool
turns p letter = slice_index_or p.turning (letter.generator - 1) false

-- each relator has an even number of letters whose generators turn
abbrev pub RelatorsTurnEvenly : Type 0
RelatorsTurnEvenly = (s : Skeleton) (p : Presentation) → IsSkeleton s → IsConnected s.rows → IsPresentation s p →
    All (λ letters. is_odd_number (count_by (turns p) letters) ≡ false) p.relators

-- no generator turns if and only if the table is orientable
abbrev pub NoneTurnsExactly : Type 0
NoneTurnsExactly = (s : Skeleton) (p : Presentation) → IsSkeleton s → IsConnected s.rows → IsPresentation s p →
    All (λ turning. turning ≡ false) p.turning ↔ IsOrientable s.rows

-- a skeleton has one presentation at most
abbrev pub OnePresentation : Type 0
OnePresentation = (s : Skeleton) (p q : Presentation) → IsPresentation s p → IsPresentation s q → p ≡ q

-- each connected table has a presentation
abbrev pub PresentationExists : Type 0
PresentationExists = (s : Skeleton) → IsSkeleton s → IsConnected s.rows → (p : Presentation) × IsPresentation s p
