-- The faces of the cone of solutions on which chosen columns are 0.
use Rattle.std.specs.Prelude.{◌≡◌, ◌==◌, ◌↔◌, ℕ, Bool, List, [], ◌∷◌, ◌++◌, pos, filter, map, slice_index}
use Rattle.std.specs.List.{All, list_all}
use Rattle.cone_definitions.specs.Vectors.{sum_of}
use Rattle.cone_definitions.specs.Rows.{Row, IsSolution, IsExtreme}
use Rattle.cone_definitions.specs.Surfaces.{Clash, IsVertexSurface, IsSurfaceList}

-- the row whose value at a vector is its entry at the column
abbrev pub entry_row : ℕ → Row
entry_row column = (column, pos 1) ∷ []

-- the rows of the face on which the columns of `zeros` are 0: a further row for each of these columns
abbrev pub face_rows : List Row → List ℕ → List Row
face_rows rows zeros = rows ++ map entry_row zeros

-- x is 0 at each column of `zeros`
abbrev pub IsZeroOn : List ℕ → List ℕ → Type 0
IsZeroOn zeros x = All (λ column. slice_index x column ≡ 0) zeros

-- whether x is 0 at each column of `zeros`
abbrev pub is_zero_on : List ℕ → List ℕ → Bool
is_zero_on zeros x = list_all (λ column. slice_index x column == 0) zeros

-- Theorem: the solutions of the face are the solutions that are 0 at the columns
abbrev pub FaceSolutionsAreZero : Type 0
FaceSolutionsAreZero = (columns : ℕ) (rows : List Row) (zeros x : List ℕ) → IsSolution columns (face_rows rows zeros) x ↔ (IsSolution columns rows x × IsZeroOn zeros x)

-- Theorem: if the sum of two solutions is in the face, both are
abbrev pub SummandsAreInFace : Type 0
SummandsAreInFace = (columns : ℕ) (rows : List Row) (zeros y z : List ℕ) → IsSolution columns rows y → IsSolution columns rows z →
    IsZeroOn zeros (sum_of y z) → IsZeroOn zeros y × IsZeroOn zeros z

-- Theorem: a vector is an extreme solution of the face if and only if it is one of the cone and 0 at the columns
abbrev pub FacesHaveExtremeSolutions : Type 0
FacesHaveExtremeSolutions = (columns : ℕ) (rows : List Row) (zeros x : List ℕ) → IsExtreme columns (face_rows rows zeros) x ↔ (IsExtreme columns rows x × IsZeroOn zeros x)

-- Theorem: a vector is a vertex surface of the face if and only if it is one of the cone and 0 at the columns
abbrev pub FacesHaveSurfaces : Type 0
FacesHaveSurfaces = (columns : ℕ) (rows : List Row) (pairs : List Clash) (zeros x : List ℕ) →
    IsVertexSurface columns (face_rows rows zeros) pairs x ↔ (IsVertexSurface columns rows pairs x × IsZeroOn zeros x)

-- Theorem: the surface list of the face consists of the members of the cone's surface list that are 0 at the columns
abbrev pub FaceListsAreFiltered : Type 0
FaceListsAreFiltered = (columns : ℕ) (rows : List Row) (pairs : List Clash) (zeros : List ℕ) (surfaces : List (List ℕ)) →
    IsSurfaceList columns rows pairs surfaces → IsSurfaceList columns (face_rows rows zeros) pairs (filter (is_zero_on zeros) surfaces)
