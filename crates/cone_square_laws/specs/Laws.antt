-- Rays and numbers are bounded by the sums of squares that the equations have in their columns, whatever the order of
-- the rows.
use Rattle.std.specs.Prelude.{ℕ, ◌*◌, ◌≤◌, false, List, length, slice_index}
use Rattle.std.specs.List.{range_with_len}
use Rattle.std.specs.List.Sorted.{IsPermutation}
use Rattle.cone_definitions.specs.Rows.{Row}
use Rattle.cone_definitions.specs.Surfaces.{Clash, IsVertexSurface}
use Rattle.cone_definitions.specs.Listings.{AreWithin}
use Rattle.cone_definitions.specs.Systems.{System}
use Rattle.cone_bound_laws.specs.Caps.{column_weight, caps_product, HasCaps}
use Rattle.cone_square_laws.specs.Squares.{sum_of_squares, HasSquareCaps}

-- the sum of squares is at most the square of the column's weight
abbrev pub SquaresAreLess : Type 0
SquaresAreLess = (rows : List Row) (column : ℕ) → sum_of_squares rows column ≤ column_weight rows column * column_weight rows column

-- so equations that are bounded by weights, with no free column, are bounded by squares
abbrev pub WeightsSuffice : Type 0
WeightsSuffice = (limit columns : ℕ) (rows : List Row) (pairs : List Clash) (group cap : ℕ → ℕ) (groups size : ℕ) →
    HasCaps columns rows pairs (λ _. false) group cap groups size → size * (caps_product cap groups * caps_product cap groups) ≤ limit →
    HasSquareCaps columns rows pairs group (λ g. cap g * cap g) groups size × (size * caps_product (λ g. cap g * cap g) groups ≤ limit)

-- no entry of a vertex surface has a square above the product of the caps
abbrev pub EntriesAreBoundedBySquares : Type 0
EntriesAreBoundedBySquares = (columns : ℕ) (rows : List Row) (pairs : List Clash) (group cap : ℕ → ℕ) (groups size : ℕ) →
    HasSquareCaps columns rows pairs group cap groups size → (x : List ℕ) → IsVertexSurface columns rows pairs x → (j : ℕ) →
    slice_index x j * slice_index x j ≤ caps_product cap groups

-- so no number of a step exceeds a limit that is at least the size of the rows times that product, in any order of the
-- rows
abbrev pub NumbersAreBoundedBySquares : Type 0
NumbersAreBoundedBySquares = (limit : ℕ) (system : System) (pairs : List Clash) (group cap : ℕ → ℕ) (groups size : ℕ) →
    HasSquareCaps system.columns system.rows pairs group cap groups size → size * caps_product cap groups ≤ limit →
    (taken : List ℕ) → IsPermutation (range_with_len 0 (length system.rows)) taken → AreWithin limit system pairs taken
