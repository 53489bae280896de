-- What the certificate implies for lists of columns.
use Rattle.std.proofs.Common.{◌≡◌, ℕ, ◌+◌, ◌*◌, ◌<◌, ◌≤◌, List, [], ◌∷◌, Bool, false, sym, arith, ap₂, refl, ◌∙◌, mul-le-mul}
use Rattle.std.proofs.lemmas.List.Sums.{sum_by-cons}
use Rattle.cone_definitions.specs.Rows.{Row}
use Rattle.cone_bound_laws.specs.Caps.{row_weight, column_weight}
use Rattle.cone_bound_laws.proofs.Forms.{Column}
use Rattle.cone_bound_laws.proofs.Weights.{weight, Sub, skip, keep}
use Rattle.cone_bound_laws.proofs.Built.{column_of, columns_of}
use Rattle.cone_bound_laws.proofs.Groups.{bound_product}
use Rattle.cone_bound_laws.proofs.Supports.{Below}
use Rattle.cone_bound_laws.proofs.Light.{weight_is}
use Rattle.cone_square_laws.specs.Squares.{sum_of_squares}
use Rattle.cone_square_laws.proofs.Products.{squares, squares_product}
use Rattle.cone_square_laws.proofs.Minors.{vector, vectors}

-- no column is free
abbrev pub none_free : ℕ → Bool
none_free = λ _. false

-- the column with the squares of its entries
unfoldable pub squared : Column → Column
squared c = record { plus = λ row. (c.plus row + c.minus row) * (c.plus row + c.minus row); minus = λ row. 0; free = false }

pub weight-squared : (c : Column) (rows : List Row) → weight (squared c) rows ≡ squares Row (vector c) rows
unfolding weight squared squares
weight-squared c [] = refl
weight-squared c (row ∷ rows) = omega (arith, weight-squared c rows)

module _ (columns : ℕ) where
  row_weight_is : (j : ℕ) → j < columns → (row : Row) → (column_of columns none_free j).plus row + (column_of columns none_free j).minus row ≡ row_weight j row
  unfolding weight
  row_weight_is j l row = omega (arith, weight_is columns none_free j l (row ∷ []), sum_by-cons (row_weight j) row [])

  pub squares_are : (j : ℕ) → j < columns → (rows : List Row) → squares Row (vector (column_of columns none_free j)) rows ≡ sum_of_squares rows j
  unfolding squares
  squares_are j l [] = refl
  squares_are j l (row ∷ rows) = ap₂ (λ a b. a + b) (ap₂ (λ a b. a * b) (row_weight_is j l row) (row_weight_is j l row)) (squares_are j l rows)
      ∙ sym (sum_by-cons (λ r. row_weight j r * row_weight j r) row rows)

  module _ (group cap : ℕ → ℕ) (taken : List Row) (some : (j : ℕ) → j < columns → 1 ≤ cap (group j))
      (light : (j : ℕ) → j < columns → squares Row (vector (column_of columns none_free j)) taken ≤ cap (group j)) where
    pub product_most : (js : List ℕ) → Below columns js → (ys : List Column) → Sub ys (columns_of columns none_free js) →
        squares_product Row taken (vectors ys) ≤ bound_product none_free group cap js
    unfolding squares_product bound_product
    product_most [] b [] s = omega arith
    product_most [] b (y ∷ ys) s = elim s [ ]
    product_most (j ∷ js) b ys (skip s) = let l : 1 * squares_product Row taken (vectors ys) ≤ cap (group j) * bound_product none_free group cap js = mul-le-mul (some j b.0) (product_most js b.1 ys s) in omega (arith, l)
    product_most (j ∷ js) b (y ∷ ys) (keep s) = mul-le-mul (light j b.0) (product_most js b.1 ys s)

-- ---- the sum of squares is at most the square of the sum

pub squares_less : (rows : List Row) (j : ℕ) → sum_of_squares rows j ≤ column_weight rows j * column_weight rows j
squares_less [] j = omega arith
squares_less (row ∷ rows) j =
    let w : ℕ = row_weight j row in
    let e : column_weight (row ∷ rows) j ≡ row_weight j row + column_weight rows j = sum_by-cons (row_weight j) row rows in
    let s : sum_of_squares (row ∷ rows) j ≡ row_weight j row * row_weight j row + sum_of_squares rows j = sum_by-cons (λ r. row_weight j r * row_weight j r) row rows in
    rw (e, s) (omega (arith, squares_less rows j))
