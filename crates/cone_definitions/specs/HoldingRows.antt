-- Rows that are 0 at a vector, with parts up to a limit.
use Rattle.std.specs.Prelude.{ℕ, ◌<◌, List, [], slice_index_or}
use Rattle.cone_definitions.specs.Rows.{Row, IsZeroAt}
use Rattle.cone_definitions.specs.Elimination.{HasPartsWithin}

-- the row is 0 at the vector, and no part exceeds the limit
pub record HoldsWithin (limit : ℕ) (x : List ℕ) (row : Row) : Type 0 where
  pub within : HasPartsWithin limit row x
  pub zero : IsZeroAt row x

-- so are the first i rows
abbrev pub HoldWithinBefore : ℕ → List Row → List ℕ → ℕ → Type 0
HoldWithinBefore limit rows x i = (j : ℕ) → j < i → HoldsWithin limit x (slice_index_or rows j [])
