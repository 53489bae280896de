-- The sums of squares in the columns of a system, as a list.
use Rattle.std.specs.Prelude.{◌≡◌, ℕ, ◌^◌, ◌<◌, ◌≤◌, List, length, slice_index}
use Rattle.cone_definitions.specs.Systems.{System}
use Rattle.cone_square_laws.specs.Squares.{sum_of_squares}

-- for each column its sum of squares
pub record AreSquares (system : System) (squares : List ℕ) : Type 0 where
  pub count : length squares ≡ system.columns
  pub each : (j : ℕ) → slice_index squares j ≡ sum_of_squares system.rows j

-- the sum of squares of a column exceeds 2^64 - 1
abbrev pub HasHeavyColumn : System → Type 0
HasHeavyColumn system = (column : ℕ) × (column < system.columns) × (2 ^ 64 ≤ sum_of_squares system.rows column)
