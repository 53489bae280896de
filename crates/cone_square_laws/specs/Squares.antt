-- The sums of squares that equations have in their columns: a certificate that is read off them, sharper than their
-- weights where no column is free.
use Rattle.std.specs.Prelude.{◌≡◌, ℕ, ◌*◌, ◌<◌, ◌≤◌, List, Contains}
use Rattle.std.specs.List.{All, sum_by}
use Rattle.cone_definitions.specs.Rows.{Row}
use Rattle.cone_definitions.specs.Surfaces.{Clash}
use Rattle.cone_definitions.specs.Listings.{Enumeration}
use Rattle.cone_bound_laws.specs.Caps.{row_weight, row_size, caps_product}

-- the sum over all rows of the square of what a row has in the column
abbrev pub sum_of_squares : List Row → ℕ → ℕ
sum_of_squares rows column = sum_by (λ row. row_weight column row * row_weight column row) rows

-- the columns fall into groups, of which an admissible vector has one column at most, and no column of a group has a
-- greater sum of squares than its cap; no row is large
pub record HasSquareCaps (columns : ℕ) (rows : List Row) (pairs : List Clash) (group cap : ℕ → ℕ) (groups size : ℕ) : Type 0 where
  pub some_cap : (g : ℕ) → g < groups → 1 ≤ cap g
  pub light : (j : ℕ) → j < columns → sum_of_squares rows j ≤ cap (group j)
  pub grouped : (j : ℕ) → j < columns → group j < groups
  pub clash : (i j : ℕ) → i < j → j < columns → group i ≡ group j → Contains pairs (i, j)
  pub small : All (λ row. row_size row ≤ size) rows

-- the equations bound all numbers by the limit
pub record IsBoundedBySquares (e : Enumeration) (group cap : ℕ → ℕ) (groups size : ℕ) : Type 0 where
  pub caps : HasSquareCaps e.system.columns e.system.rows e.pairs group cap groups size
  pub most : size * caps_product cap groups ≤ e.limit
