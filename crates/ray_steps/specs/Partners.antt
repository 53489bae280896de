-- For each column the set of columns that clash with it.
use Rattle.std.specs.Prelude.{◌≡◌, ℕ, ◌<◌, ◌⊎◌, ◌↔◌, List, Bool, [], length, slice_index_or, Contains}
use Rattle.cone_definitions.specs.Surfaces.{Clash}
use Rattle.support_bits.specs.Columns.{HasColumn}

-- partner is the set of columns that clash with the column
pub record IsClashSetOf (columns : ℕ) (pairs : List Clash) (column : ℕ) (partner : List Bool) : Type 0 where
  pub count : length partner ≡ columns
  pub each : (other : ℕ) → HasColumn partner other ↔ (Contains pairs (other, column) ⊎ Contains pairs (column, other))

-- partners has, for each column, the set of columns that clash with it
pub record AreClashSets (columns : ℕ) (pairs : List Clash) (partners : List (List Bool)) : Type 0 where
  pub count : length partners ≡ columns
  pub each : (column : ℕ) → column < length partners → IsClashSetOf columns pairs column (slice_index_or partners column [])

-- other is inserted into the set of column one
pub record IsInserted (one other : ℕ) (old new : List (List Bool)) : Type 0 where
  pub count : length new ≡ length old
  pub widths : (k : ℕ) → length (slice_index_or new k []) ≡ length (slice_index_or old k [])
  pub each : (k column : ℕ) → HasColumn (slice_index_or new k []) column ↔ (HasColumn (slice_index_or old k []) column ⊎ ((k ≡ one) × (column ≡ other)))

-- joined is the union of the sets of those columns below n that are in the support
pub record IsJoinedBelow (n : ℕ) (partners : List (List Bool)) (support joined : List Bool) : Type 0 where
  pub count : length joined ≡ length support
  pub each : (other : ℕ) → HasColumn joined other ↔ ((column : ℕ) × (column < n) × HasColumn support column × HasColumn (slice_index_or partners column []) other)
