-- The weights of columns over rows, their products, and what one more cut adds.
use Rattle.std.proofs.Common.{◌≡◌, ℕ, ◌+◌, ◌*◌, ◌≤◌, List, [], ◌∷◌, ◌++◌, ap, arith, subst, refl, Bool, true, false, cond, mul-le-mul_left}
use Rattle.cone_definitions.specs.Rows.{Row}
use Rattle.cone_bound_laws.proofs.Forms.{Column, behind, cut}
use Rattle.cone_bound_laws.proofs.Minors.{IsWithin}

-- the magnitudes that rows have in a column, together
unfoldable pub weight : Column → List Row → ℕ
weight c [] = 0
weight c (row ∷ rows) = c.plus row + c.minus row + weight c rows

-- free columns count as 1
abbrev pub factor : List Row → Column → ℕ
factor rows c = cond c.free 1 (weight c rows)

unfoldable pub product : List Row → List Column → ℕ
product rows [] = 1
product rows (c ∷ xs) = factor rows c * product rows xs

-- the magnitude of a row in a column that is not free, and 0 in a free one
abbrev pub share : Row → Column → ℕ
share row c = cond c.free 0 (c.plus row + c.minus row)

-- the sum of the products in which one column's factor is replaced by its share
unfoldable pub spread : Row → List Row → List Column → ℕ
spread row rows [] = 0
spread row rows (c ∷ xs) = share row c * product rows xs + factor rows c * spread row rows xs

factor_more : (row : Row) (rows : List Row) (c : Column) → factor (row ∷ rows) c ≡ share row c + factor rows c
unfolding weight
factor_more row rows c = by c.free
  where
    by : (b : Bool) → cond b 1 (c.plus row + c.minus row + weight c rows) ≡ cond b 0 (c.plus row + c.minus row) + cond b 1 (weight c rows)
    by true = omega arith
    by false = omega arith

more_of_product : (s f p q r : ℕ) → p + q ≤ r → f * p + (s * p + f * q) ≤ (s + f) * r
more_of_product s f p q r h = omega (arith, mul-le-mul_left (s + f) h)

-- one more row increases the product by at least the spread
pub product_more : (row : Row) (rows : List Row) (xs : List Column) → product rows xs + spread row rows xs ≤ product (row ∷ rows) xs
unfolding product spread
product_more row rows [] = omega arith
product_more row rows (c ∷ xs) = let h = more_of_product (share row c) (factor rows c) (product rows xs) (spread row rows xs) (product (row ∷ rows) xs) (product_more row rows xs) in
    let e : factor (row ∷ rows) c ≡ share row c + factor rows c = factor_more row rows c in
    let g : factor (row ∷ rows) c * product (row ∷ rows) xs ≡ (share row c + factor rows c) * product (row ∷ rows) xs = ap (λ n. n * product (row ∷ rows) xs) e in
    omega (arith, h, g)

-- a free column does not count
pub free_product : (rows : List Row) (c : Column) (xs : List Column) → c.free ≡ true → product rows (c ∷ xs) ≡ product rows xs
unfolding product
free_product rows c xs e = let g : factor rows c ≡ 1 = ap (λ b. cond b 1 (weight c rows)) e in let h : factor rows c * product rows xs ≡ 1 * product rows xs = ap (λ n. n * product rows xs) g in omega (arith, h)

pub free_product_inside : (rows : List Row) (before : List Column) (c : Column) (after : List Column) → c.free ≡ true → product rows (before ++ c ∷ after) ≡ product rows (before ++ after)
unfolding product
free_product_inside rows [] c after e = free_product rows c after e
free_product_inside rows (d ∷ before) c after e = ap (λ n. factor rows d * n) (free_product_inside rows before c after e)

-- ---- lists with some columns left out

pub data Sub : List Column → List Column → Type 0 where
  nil : Sub [] []
  skip : {c : Column} {xs ys : List Column} → Sub ys xs → Sub ys (c ∷ xs)
  keep : {c : Column} {xs ys : List Column} → Sub ys xs → Sub (c ∷ ys) (c ∷ xs)

pub all_of : (xs : List Column) → Sub xs xs
all_of [] = nil
all_of (c ∷ xs) = keep (all_of xs)

-- ---- sums over columns

unfoldable pub total : (Column → ℕ) → List Column → ℕ
total g [] = 0
total g (c ∷ xs) = g c + total g xs

pub total-sub : (g : Column → ℕ) {xs ys : List Column} → Sub ys xs → total g ys ≤ total g xs
unfolding total
total-sub g nil = omega arith
total-sub g (skip s) = omega (arith, total-sub g s)
total-sub g (keep s) = omega (arith, total-sub g s)

pub total-inside : (g : Column → ℕ) (before : List Column) (c : Column) (after : List Column) → total g (before ++ c ∷ after) ≡ g c + total g (before ++ after)
unfolding total
total-inside g [] c after = omega arith
total-inside g (d ∷ before) c after = omega (arith, total-inside g before c after)

-- the parts of a row in the free columns
abbrev pub free_plus : Row → Column → ℕ
free_plus row c = cond c.free (c.plus row) 0

abbrev pub free_minus : Row → Column → ℕ
free_minus row c = cond c.free (c.minus row) 0

-- ---- a cut by a row that is 0 in the free columns

abbrev pub IsIdle : Row → List Column → Type 0
IsIdle row xs = (total (free_plus row) xs ≡ 0) × (total (free_minus row) xs ≡ 0)

idle_or_shared : (row : Row) (c : Column) → cond c.free (c.plus row) 0 ≡ 0 → cond c.free (c.minus row) 0 ≡ 0 → c.plus row + c.minus row ≡ share row c
idle_or_shared row c = by c.free
  where
    by : (b : Bool) → cond b (c.plus row) 0 ≡ 0 → cond b (c.minus row) 0 ≡ 0 → c.plus row + c.minus row ≡ cond b 0 (c.plus row + c.minus row)
    by true e f = omega arith
    by false e f = refl

-- p and m times a difference within b, and another within d
times_within : (p m x y b z w d s : ℕ) → p + m ≡ s → IsWithin b x y → IsWithin d z w → IsWithin (s * b + d) (p * x + m * y + z) (p * y + m * x + w)
times_within p m x y b z w d s e h g = let f : (p + m) * b ≡ s * b = ap (λ n. n * b) e in record {
  above = omega (arith, mul-le-mul_left p h.above, mul-le-mul_left m h.below, g.above, f);
  below = omega (arith, mul-le-mul_left p h.below, mul-le-mul_left m h.above, g.below, f);
}

within_more : (b d x y : ℕ) → b ≡ d → IsWithin b x y → IsWithin d x y
within_more b d x y e h = subst (λ n. IsWithin n x y) e h

pub flip : (b x y : ℕ) → IsWithin b x y → IsWithin b y x
flip b x y h = record { above = h.below; below = h.above }

pub spread_bounds : (xs : List Column) (row : Row) (rows : List Row) (k : ℕ) (f f_down : List Column → ℕ) → IsIdle row xs →
    ((ys : List Column) → Sub ys xs → IsWithin (k * product rows ys) (f ys) (f_down ys)) → IsWithin (k * spread row rows xs) (cut row f f_down xs) (cut row f_down f xs)
unfolding cut spread product total
spread_bounds [] row rows k f f_down idle h = record { above = omega arith; below = omega arith }
spread_bounds (c ∷ xs) row rows k f f_down idle h =
    let zero_plus : free_plus row c + total (free_plus row) xs ≡ 0 = idle.0 in
    let zero_minus : free_minus row c + total (free_minus row) xs ≡ 0 = idle.1 in
    let e : c.plus row + c.minus row ≡ share row c = idle_or_shared row c (omega arith) (omega arith) in
    let first : IsWithin (k * product rows xs) (f xs) (f_down xs) = h xs (skip (all_of xs)) in
    let rest : IsWithin (k * factor rows c * spread row rows xs) (cut row (behind c f_down) (behind c f) xs) (cut row (behind c f) (behind c f_down) xs) =
    spread_bounds xs row rows (k * factor rows c) (behind c f_down) (behind c f) (omega arith, omega arith) (λ ys s.
    within_more (k * (factor rows c * product rows ys)) (k * factor rows c * product rows ys) (f_down (c ∷ ys)) (f (c ∷ ys)) (omega arith)
    (flip (k * (factor rows c * product rows ys)) (f (c ∷ ys)) (f_down (c ∷ ys)) (h (c ∷ ys) (keep s)))) in
    within_more (share row c * (k * product rows xs) + k * factor rows c * spread row rows xs) (k * (share row c * product rows xs + factor rows c * spread row rows xs))
    (c.plus row * f xs + c.minus row * f_down xs + cut row (behind c f_down) (behind c f) xs) (c.plus row * f_down xs + c.minus row * f xs + cut row (behind c f) (behind c f_down) xs) (omega arith)
    (times_within (c.plus row) (c.minus row) (f xs) (f_down xs) (k * product rows xs) (cut row (behind c f_down) (behind c f) xs) (cut row (behind c f) (behind c f_down) xs)
    (k * factor rows c * spread row rows xs) (share row c) e first rest)
