-- Products of vectors: the square of the product's coefficient for all rows is at most the product of the vectors' sums
-- of squares.
use Rattle.std.proofs.Common.{◌≡◌, ℕ, ◌+◌, ◌-◌, ◌*◌, ◌≤◌, inl, inr, List, [], ◌∷◌, arith, refl, subst, mul-le-mul}
use Rattle.std.proofs.lemmas.Bool.{cases_lt}
use Rattle.cone_square_laws.proofs.Algebra.{Form, leaf, fork, Vector, negated, none, dot, wedge, contracted, dot-none, square_sum, cross_sum, norms}

-- ---- natural numbers

square_above : (p d : ℕ) → 2 * (p * (p + d)) ≤ p * p + (p + d) * (p + d)
square_above p d = omega arith

pub two_squares : (p m : ℕ) → 2 * (p * m) ≤ p * p + m * m
two_squares p m = elim (cases_lt p m) [
  | inl l ↦ let e : p + (m - p) ≡ m = omega arith in subst (λ n. 2 * (p * n) ≤ p * p + n * n) e (square_above p (m - p))
  | inr l ↦ let e : m + (p - m) ≡ p = omega arith in let h : 2 * (p * m) ≤ p * p + m * m = subst (λ n. 2 * (n * m) ≤ n * n + m * m) e (let s = square_above m (p - m) in omega (arith, s)) in h
]

-- a product of one factor that is at most s and one that is at most q is at most s q
norm_bounded : (n k a r s q c w v : ℕ) → n + v + ((c + a) * k + c * (k + r)) ≡ w + v + ((c + a) * (k + r) + c * k) → a ≤ s → r ≤ q → n ≤ w + s * q
norm_bounded n k a r s q c w v e ha hr = omega (arith, e, mul-le-mul ha hr)

module _ (R : Type 0) where
  -- the sum of squares, if both parts of each number are added
  unfoldable pub squares : Vector R → List R → ℕ
  squares c [] = 0
  squares c (row ∷ rows) = (c.plus row + c.minus row) * (c.plus row + c.minus row) + squares c rows

  squares-are : (c : Vector R) (rows : List R) → square_sum R c rows + cross_sum R c rows ≡ squares c rows
  unfolding square_sum cross_sum squares
  squares-are c [] = refl
  squares-are c (row ∷ rows) = omega (arith, squares-are c rows)

  cross_least : (c : Vector R) (rows : List R) → cross_sum R c rows ≤ square_sum R c rows
  unfolding square_sum cross_sum
  cross_least c [] = omega arith
  cross_least c (row ∷ rows) = omega (arith, cross_least c rows, two_squares (c.plus row) (c.minus row))

  pub dot_least : {rows : List R} (x : Form rows) → dot R (negated R x) x ≤ dot R x x
  unfolding dot negated
  dot_least (leaf p m) = omega (arith, two_squares p m)
  dot_least (fork x y) = omega (arith, dot_least x, dot_least y)

  wedge_bounded : (c : Vector R) (rows : List R) (x : Form rows) (q : ℕ) → dot R x x ≤ dot R (negated R x) x + q →
      dot R (wedge R c rows x) (wedge R c rows x) ≤ dot R (negated R (wedge R c rows x)) (wedge R c rows x) + squares c rows * q
  wedge_bounded c rows x q h =
      let n : ℕ = dot R (wedge R c rows x) (wedge R c rows x) in
      let w : ℕ = dot R (negated R (wedge R c rows x)) (wedge R c rows x) in
      let y : Form rows = contracted R c rows x in
      let v : ℕ = dot R (negated R y) y in
      let a : ℕ = square_sum R c rows - cross_sum R c rows in
      let r : ℕ = dot R x x - dot R (negated R x) x in
      let least : cross_sum R c rows ≤ square_sum R c rows = cross_least c rows in
      let ea : cross_sum R c rows + a ≡ square_sum R c rows = omega arith in
      let er : dot R (negated R x) x + r ≡ dot R x x = omega (arith, dot_least x) in
      let more : v ≤ dot R y y = dot_least y in
      let b : ℕ = dot R y y - v in
      let eb : v + b ≡ dot R y y = omega arith in
      let e : (n + b) + v + ((cross_sum R c rows + a) * dot R (negated R x) x + cross_sum R c rows * (dot R (negated R x) x + r))
      ≡ w + v + ((cross_sum R c rows + a) * (dot R (negated R x) x + r) + cross_sum R c rows * dot R (negated R x) x) =
      rw (ea, er) (omega (arith, norms R c rows x, eb)) in
      let bound : n + b ≤ w + squares c rows * q =
      norm_bounded (n + b) (dot R (negated R x) x) a r (squares c rows) q (cross_sum R c rows) w v e (omega (arith, squares-are c rows, ea)) (omega (arith, h, er)) in
      omega (arith, bound)

  -- ---- several vectors

  unfoldable pub unit : (rows : List R) → Form rows
  unit [] = leaf 1 0
  unit (row ∷ rows) = fork (unit rows) (none R rows)

  unfoldable pub wedges : (rows : List R) → List (Vector R) → Form rows
  wedges rows [] = unit rows
  wedges rows (c ∷ cs) = wedge R c rows (wedges rows cs)

  unfoldable pub squares_product : List R → List (Vector R) → ℕ
  squares_product rows [] = 1
  squares_product rows (c ∷ cs) = squares c rows * squares_product rows cs

  unit_bounded : (rows : List R) → dot R (unit rows) (unit rows) ≤ dot R (negated R (unit rows)) (unit rows) + 1
  unfolding unit dot negated none
  unit_bounded [] = omega arith
  unit_bounded (row ∷ rows) = omega (arith, unit_bounded rows, dot-none R (none R rows))

  wedges_bounded : (rows : List R) (cs : List (Vector R)) → dot R (wedges rows cs) (wedges rows cs) ≤ dot R (negated R (wedges rows cs)) (wedges rows cs) + squares_product rows cs
  unfolding wedges squares_product
  wedges_bounded rows [] = unit_bounded rows
  wedges_bounded rows (c ∷ cs) = wedge_bounded c rows (wedges rows cs) (squares_product rows cs) (wedges_bounded rows cs)

  -- ---- the coefficient for all rows

  unfoldable pub top : {rows : List R} → Form rows → ℕ
  top (leaf p m) = p
  top (fork x y) = top y

  top_within : {rows : List R} (x : Form rows) →
      top x * top x + top (negated R x) * top (negated R x) + dot R (negated R x) x ≤ dot R x x + 2 * (top x * top (negated R x))
  unfolding top dot negated
  top_within (leaf p m) = omega arith
  top_within (fork x y) = omega (arith, top_within y, dot_least x)

  pub hadamard : (rows : List R) (cs : List (Vector R)) → let x = wedges rows cs in
      top x * top x + top (negated R x) * top (negated R x) ≤ 2 * (top x * top (negated R x)) + squares_product rows cs
  hadamard rows cs = omega (arith, top_within (wedges rows cs), wedges_bounded rows cs)
