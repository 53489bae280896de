-- The coefficient of the product of a matrix's columns for all rows is the determinant.
use Rattle.std.proofs.Common.{◌≡◌, ℕ, ◌+◌, ◌*◌, ◌≤◌, List, [], ◌∷◌, map, ℤ, pos, negsuc, ◌+ℤ◌, ◌-ℤ◌, ◌*ℤ◌, unsigned_abs, ap, ap₂, arith, sym, refl, subst, ◌∙◌, sum_by}
use Rattle.std.proofs.lemmas.Int.{ints}
use borrow.Author.Differences.{up, down}
use Rattle.std.proofs.lemmas.List.Sums.{sum_by-cons}
use Rattle.cone_definitions.specs.Rows.{positive_coefficient, negative_coefficient}
use Rattle.cone_square_laws.specs.Determinants.{MatrixRow, expansion, determinant, product_of_squares}
use Rattle.cone_square_laws.proofs.Algebra.{Form, leaf, Vector, negated, none, mixed, wedge, wedge-negated, negated-negated, negated-mixed}
use Rattle.cone_square_laws.proofs.Products.{unit, wedges, top, squares, squares_product, hadamard}
use Rattle.cone_square_laws.proofs.Linear.{IsLinear, linear_behind, linear_turned, linear_mixed, linear_top, with_row, row_more}

-- a column of the matrix
abbrev column : ℕ → Vector MatrixRow
column c = record { plus = λ row. positive_coefficient (row c); minus = λ row. negative_coefficient (row c) }

abbrev all_columns : List ℕ → List (Vector MatrixRow)
all_columns cs = map column cs

-- one entry times a difference, less another difference
entry_times : (z f g : ℤ) (a b c d : ℕ) → pos a ≡ f +ℤ pos b → pos c ≡ g +ℤ pos d →
    pos (positive_coefficient z * a + negative_coefficient z * b + d) ≡ (z *ℤ f -ℤ g) +ℤ pos (positive_coefficient z * b + negative_coefficient z * a + c)
entry_times (pos n) f g a b c d h k = let e : a + down f ≡ up f + b = omega (arith, ints) in
    let i : n * (a + down f) ≡ n * (up f + b) = ap (λ j. n * j) e in omega (arith, ints, i)
entry_times (negsuc n) f g a b c d h k = let e : a + down f ≡ up f + b = omega (arith, ints) in
    let i : (n + 1) * (a + down f) ≡ (n + 1) * (up f + b) = ap (λ j. (n + 1) * j) e in omega (arith, ints, i)

module _ (row : MatrixRow) (rows : List MatrixRow) where
  -- a linear function of the choices with the row is its expansion by the row
  linear_expansion : (n : Form rows → ℕ) → IsLinear rows n → (f : List ℕ → ℤ) →
      ((cs : List ℕ) → pos (n (wedges MatrixRow rows (all_columns cs))) ≡ f cs +ℤ pos (n (negated MatrixRow (wedges MatrixRow rows (all_columns cs))))) →
      (cs : List ℕ) → pos (n (with_row MatrixRow row rows (all_columns cs))) ≡ expansion row f cs +ℤ pos (n (negated MatrixRow (with_row MatrixRow row rows (all_columns cs))))
  unfolding with_row wedges expansion
  linear_expansion n lin f h [] =
      let a : n (none MatrixRow rows) ≡ 0 = lin.zero in
      let b : n (negated MatrixRow (none MatrixRow rows)) ≡ 0 = (linear_turned MatrixRow rows n lin).zero in
      ap (λ k. pos k) a ∙ ap (λ k. pos 0 +ℤ pos k) (sym b)
  linear_expansion n lin f h (c ∷ cs) =
      let p : ℕ = positive_coefficient (row c) in
      let m : ℕ = negative_coefficient (row c) in
      let w : Form rows = wedges MatrixRow rows (all_columns cs) in
      let v : Form rows = wedge MatrixRow (column c) rows (with_row MatrixRow row rows (all_columns cs)) in
      let rest : pos (n v) ≡ expansion row (λ ds. f (c ∷ ds)) cs +ℤ pos (n (negated MatrixRow v)) =
      linear_expansion (λ x. n (wedge MatrixRow (column c) rows x)) (linear_behind MatrixRow (column c) rows n lin) (λ ds. f (c ∷ ds)) (behind c) cs
      ∙ ap (λ x. expansion row (λ ds. f (c ∷ ds)) cs +ℤ pos (n x)) (wedge-negated MatrixRow (column c) rows (with_row MatrixRow row rows (all_columns cs))) in
      let left : n (mixed MatrixRow p m w (negated MatrixRow v)) ≡ p * n w + m * n (negated MatrixRow w) + n (negated MatrixRow v) = linear_mixed MatrixRow rows n lin p m w (negated MatrixRow v) in
      let tw : n (negated MatrixRow (negated MatrixRow w)) ≡ n w = ap n (negated-negated MatrixRow w) in
      let tv : n (negated MatrixRow (negated MatrixRow v)) ≡ n v = ap n (negated-negated MatrixRow v) in
      let opened : n (negated MatrixRow (mixed MatrixRow p m w (negated MatrixRow v)))
      ≡ p * n (negated MatrixRow w) + m * n (negated MatrixRow (negated MatrixRow w)) + n (negated MatrixRow (negated MatrixRow v)) =
      ap n (negated-mixed MatrixRow p m w (negated MatrixRow v)) ∙ linear_mixed MatrixRow rows n lin p m (negated MatrixRow w) (negated MatrixRow (negated MatrixRow v)) in
      let right : n (negated MatrixRow (mixed MatrixRow p m w (negated MatrixRow v))) ≡ p * n (negated MatrixRow w) + m * n w + n v = omega (arith, opened, ap (λ k. m * k) tw, tv) in
      ap (λ k. pos k) left
      ∙ entry_times (row c) (f cs) (expansion row (λ ds. f (c ∷ ds)) cs) (n w) (n (negated MatrixRow w)) (n v) (n (negated MatrixRow v)) (h cs) rest
      ∙ ap (λ k. (row c *ℤ f cs -ℤ expansion row (λ ds. f (c ∷ ds)) cs) +ℤ pos k) (sym right)
    where
      behind : (c : ℕ) (ds : List ℕ) → pos (n (wedge MatrixRow (column c) rows (wedges MatrixRow rows (all_columns ds))))
          ≡ f (c ∷ ds) +ℤ pos (n (wedge MatrixRow (column c) rows (negated MatrixRow (wedges MatrixRow rows (all_columns ds)))))
      behind c ds = h (c ∷ ds) ∙ ap (λ x. f (c ∷ ds) +ℤ pos (n x)) (sym (wedge-negated MatrixRow (column c) rows (wedges MatrixRow rows (all_columns ds))))

no_rows : (c : Vector MatrixRow) (x : Form []) → wedge MatrixRow c [] x ≡ leaf 0 0
unfolding wedge
no_rows c (leaf p m) = refl

-- the coefficient for all rows
determinant_is : (rows : List MatrixRow) (cs : List ℕ) →
    pos (top MatrixRow (wedges MatrixRow rows (all_columns cs))) ≡ determinant rows cs +ℤ pos (top MatrixRow (negated MatrixRow (wedges MatrixRow rows (all_columns cs))))
unfolding determinant top wedges unit negated
determinant_is [] [] = omega (arith, ints)
determinant_is [] (c ∷ cs) = let e = no_rows (column c) (wedges MatrixRow [] (all_columns cs)) in
    ap (λ x. pos (top MatrixRow x)) e ∙ ap (λ x. pos 0 +ℤ pos (top MatrixRow (negated MatrixRow x))) (sym e)
determinant_is (row ∷ rows) cs = let e = row_more MatrixRow row rows (all_columns cs) in
    ap (λ x. pos (top MatrixRow x)) e ∙ linear_expansion row rows (top MatrixRow) (linear_top MatrixRow rows) (determinant rows) (determinant_is rows) cs
    ∙ ap (λ x. expansion row (determinant rows) cs +ℤ pos (top MatrixRow (negated MatrixRow x))) (sym e)

-- a sum of squares of entries
parts_are : (z : ℤ) → positive_coefficient z + negative_coefficient z ≡ unsigned_abs z
parts_are (pos n) = omega arith
parts_are (negsuc n) = omega arith

squares_are : (rows : List MatrixRow) (c : ℕ) → squares MatrixRow (column c) rows ≡ sum_by (λ row. unsigned_abs (row c) * unsigned_abs (row c)) rows
unfolding squares
squares_are [] c = refl
squares_are (row ∷ rows) c = ap₂ (λ a b. a + b) (ap₂ (λ a b. a * b) (parts_are (row c)) (parts_are (row c))) (squares_are rows c)
    ∙ sym (sum_by-cons (λ (r : MatrixRow). unsigned_abs (r c) * unsigned_abs (r c)) row rows)

product_is : (rows : List MatrixRow) (cs : List ℕ) → squares_product MatrixRow rows (all_columns cs) ≡ product_of_squares rows cs
unfolding squares_product product_of_squares
product_is rows [] = refl
product_is rows (c ∷ cs) = ap₂ (λ a b. a * b) (squares_are rows c) (product_is rows cs)

-- the square of a difference
square_is : (z : ℤ) (a b s : ℕ) → pos a ≡ z +ℤ pos b → a * a + b * b ≤ 2 * (a * b) + s → unsigned_abs z * unsigned_abs z ≤ s
square_is (pos n) a b s e h = let d : a ≡ n + b = omega (arith, ints) in
    let g : (n + b) * (n + b) + b * b ≤ 2 * ((n + b) * b) + s = subst (λ k. k * k + b * b ≤ 2 * (k * b) + s) d h in omega (arith, g)
square_is (negsuc n) a b s e h = let d : b ≡ (n + 1) + a = omega (arith, ints) in
    let g : a * a + ((n + 1) + a) * ((n + 1) + a) ≤ 2 * (a * ((n + 1) + a)) + s = subst (λ k. a * a + k * k ≤ 2 * (a * k) + s) d h in
    let i : unsigned_abs (negsuc n) ≡ n + 1 = omega arith in rw i (omega (arith, g))

pub determinants_bounded : (rows : List MatrixRow) (cs : List ℕ) → unsigned_abs (determinant rows cs) * unsigned_abs (determinant rows cs) ≤ product_of_squares rows cs
determinants_bounded rows cs = let x : Form rows = wedges MatrixRow rows (all_columns cs) in
    square_is (determinant rows cs) (top MatrixRow x) (top MatrixRow (negated MatrixRow x)) (product_of_squares rows cs) (determinant_is rows cs)
    (omega (arith, hadamard MatrixRow rows (all_columns cs), product_is rows cs))
