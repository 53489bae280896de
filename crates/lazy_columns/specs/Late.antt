-- Rays of the rows so far that are 0 at each column that has not entered.
use Rattle.std.specs.Prelude.{◌≡◌, ℕ, ◌+◌, ◌≤◌, ◌++◌, List, [], ◌∷◌, pos, Bool, true, false, length, slice_index_or}
use Rattle.std.specs.List.{All}
use Rattle.cone_definitions.specs.Rows.{Row}
use Rattle.cone_definitions.specs.Surfaces.{Clash, PairsAreOfTwoColumns}
use Rattle.ray_steps.specs.Rays.{rays_of}
use Rattle.cone_definitions.specs.Unordered.{HasSurfaces}
use Rattle.cone_row_laws.specs.Fresh.{IsUntouched}
use Rattle.lazy_columns.specs.declared.late_rays.LateRays.{LateRays}

-- the column has not entered; columns beyond the last count as entered
abbrev pub IsUnseen : List Bool → ℕ → Type 0
IsUnseen seen column = slice_index_or seen column true ≡ false

-- for each column that has not entered the row that is 0 if and only if the column is, counted from column on
unfoldable pub held_rows : ℕ → List Bool → List Row
held_rows column [] = []
held_rows column (true ∷ seen) = held_rows (column + 1) seen
held_rows column (false ∷ seen) = ((column, pos 1) ∷ []) ∷ held_rows (column + 1) seen

-- the rays are the vertex surfaces of the rows that are 0 at each column that has not entered, and no row contains such
-- a column
pub record AreLate (columns : ℕ) (rows : List Row) (pairs : List Clash) (late : LateRays) : Type 0 where
  pub count : length late.seen.items ≡ columns
  pub untouched : (column : ℕ) → IsUnseen late.seen.items column → IsUntouched columns rows column
  pub surfaces : HasSurfaces columns (rows ++ held_rows 0 late.seen.items) pairs (rays_of late.ray_list.items)

-- AreLate for at most most - 2 rows, if no column clashes with itself
pub record AreBoundedLate (columns most : ℕ) (pairs : List Clash) (late : LateRays) : Type 0 where
  pub separate : PairsAreOfTwoColumns pairs
  pub rows : List Row
  pub limited : length rows + 2 ≤ most
  pub so_far : AreLate columns rows pairs late

-- AreLate still holds, and no further column is without a ray
pub record HaveEntered (columns : ℕ) (old new : LateRays) : Type 0 where
  pub late : (rows : List Row) (pairs : List Clash) → PairsAreOfTwoColumns pairs → AreLate columns rows pairs old → AreLate columns rows pairs new
  pub unseen : (column : ℕ) → IsUnseen new.seen.items column → IsUnseen old.seen.items column

-- each column of the row has entered
abbrev pub AreSeen : List Bool → Row → Type 0
AreSeen seen row = All (λ term. slice_index_or seen term.0 true ≡ true) row

-- AreLate for some rows becomes AreLate for these rows and one more
abbrev pub AreNextLate : ℕ → List Clash → Row → LateRays → LateRays → Type 0
AreNextLate columns pairs row old new = (rows : List Row) → AreLate columns rows pairs old → AreLate columns (rows ++ row ∷ []) pairs new
