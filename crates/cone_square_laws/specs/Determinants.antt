-- Determinants of whole numbers, and a bound of their squares.
use Rattle.std.specs.Prelude.{ℕ, ◌*◌, ◌≤◌, ℤ, pos, ◌-ℤ◌, ◌*ℤ◌, unsigned_abs, List, [], ◌∷◌}
use Rattle.std.specs.List.{sum_by}

-- a row of a matrix: a number for each column
abbrev pub MatrixRow : Type 0
MatrixRow = ℕ → ℤ

-- each number of a row times what the others' columns have, with signs that alternate
unfoldable pub expansion : MatrixRow → (List ℕ → ℤ) → List ℕ → ℤ
expansion row others [] = pos 0
expansion row others (c ∷ cs) = row c *ℤ others cs -ℤ expansion row (λ rest. others (c ∷ rest)) cs

-- the determinant of some columns, by the first row; 0 where there are not as many columns as rows
unfoldable pub determinant : List MatrixRow → List ℕ → ℤ
determinant [] [] = pos 1
determinant [] (c ∷ cs) = pos 0
determinant (row ∷ rows) cs = expansion row (determinant rows) cs

-- the product of the columns' sums of squares
unfoldable pub product_of_squares : List MatrixRow → List ℕ → ℕ
product_of_squares rows [] = 1
product_of_squares rows (c ∷ cs) = sum_by (λ row. unsigned_abs (row c) * unsigned_abs (row c)) rows * product_of_squares rows cs

-- Hadamard's inequality: the square of a determinant is at most that product
abbrev pub DeterminantsAreBounded : Type 0
DeterminantsAreBounded = (rows : List MatrixRow) (columns : List ℕ) →
    unsigned_abs (determinant rows columns) * unsigned_abs (determinant rows columns) ≤ product_of_squares rows columns
