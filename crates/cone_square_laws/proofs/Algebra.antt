-- Forms over rows: a number for each choice of rows, as two parts of which it is the difference. The product of a
-- vector and a form, with alternating signs, takes one row more; a form contracted with a vector takes one row less.
use Rattle.std.proofs.Common.{◌≡◌, ℕ, ◌+◌, ◌*◌, List, [], ◌∷◌, ap, ap₂, arith, sym, refl, ◌∙◌}

-- a form: by the first row, the choices without it and those with it
pub data Form {R : Type 0} : List R → Type 0 where
  leaf : ℕ → ℕ → Form []
  fork : {row : R} {rows : List R} → Form rows → Form rows → Form (row ∷ rows)

-- a vector: for each row a number, as two parts
pub record Vector (R : Type 0) : Type 0 where
  pub plus : R → ℕ
  pub minus : R → ℕ

module _ (R : Type 0) where
  unfoldable pub negated : {rows : List R} → Form rows → Form rows
  negated (leaf p m) = leaf m p
  negated (fork x y) = fork (negated x) (negated y)

  unfoldable pub plus : {rows : List R} → Form rows → Form rows → Form rows
  plus (leaf p m) (leaf q n) = leaf (p + q) (m + n)
  plus (fork x y) (fork z w) = fork (plus x z) (plus y w)

  unfoldable pub times : {rows : List R} → ℕ → Form rows → Form rows
  times k (leaf p m) = leaf (k * p) (k * m)
  times k (fork x y) = fork (times k x) (times k y)

  unfoldable pub none : (rows : List R) → Form rows
  none [] = leaf 0 0
  none (row ∷ rows) = fork (none rows) (none rows)

  -- the part of the inner product in which the signs agree
  unfoldable pub dot : {rows : List R} → Form rows → Form rows → ℕ
  dot (leaf p m) (leaf q n) = p * q + m * n
  dot (fork x y) (fork z w) = dot x z + dot y w

  pub negated-negated : {rows : List R} (x : Form rows) → negated (negated x) ≡ x
  unfolding negated
  negated-negated (leaf p m) = refl
  negated-negated (fork x y) = ap₂ (λ a b. fork a b) (negated-negated x) (negated-negated y)

  pub negated-plus : {rows : List R} (x y : Form rows) → negated (plus x y) ≡ plus (negated x) (negated y)
  unfolding negated plus
  negated-plus (leaf p m) (leaf q n) = refl
  negated-plus (fork x y) (fork z w) = ap₂ (λ a b. fork a b) (negated-plus x z) (negated-plus y w)

  pub negated-times : {rows : List R} (k : ℕ) (x : Form rows) → negated (times k x) ≡ times k (negated x)
  unfolding negated times
  negated-times k (leaf p m) = refl
  negated-times k (fork x y) = ap₂ (λ a b. fork a b) (negated-times k x) (negated-times k y)

  dot-plus : {rows : List R} (x y z : Form rows) → dot (plus x y) z ≡ dot x z + dot y z
  unfolding dot plus
  dot-plus (leaf p m) (leaf q n) (leaf r s) = omega arith
  dot-plus (fork x y) (fork z w) (fork u v) = omega (arith, dot-plus x z u, dot-plus y w v)

  dot-times : {rows : List R} (k : ℕ) (x y : Form rows) → dot (times k x) y ≡ k * dot x y
  unfolding dot times
  dot-times k (leaf p m) (leaf q n) = omega arith
  dot-times k (fork x y) (fork z w) = omega (arith, dot-times k x z, dot-times k y w)

  pub dot-none : {rows : List R} (x : Form rows) → dot (none rows) x ≡ 0
  unfolding dot none
  dot-none (leaf p m) = omega arith
  dot-none (fork x y) = omega (arith, dot-none x, dot-none y)

  dot-sym : {rows : List R} (x y : Form rows) → dot x y ≡ dot y x
  unfolding dot
  dot-sym (leaf p m) (leaf q n) = omega arith
  dot-sym (fork x y) (fork z w) = omega (arith, dot-sym x z, dot-sym y w)

  dot-negated : {rows : List R} (x y : Form rows) → dot (negated x) y ≡ dot x (negated y)
  unfolding dot negated
  dot-negated (leaf p m) (leaf q n) = omega arith
  dot-negated (fork x y) (fork z w) = omega (arith, dot-negated x z, dot-negated y w)

  -- ---- p - m times x, and z

  unfoldable pub mixed : {rows : List R} → ℕ → ℕ → Form rows → Form rows → Form rows
  mixed p m x z = plus (plus (times p x) (times m (negated x))) z

  dot-mixed : {rows : List R} (p m : ℕ) (x z y : Form rows) → dot (mixed p m x z) y ≡ p * dot x y + m * dot (negated x) y + dot z y
  unfolding mixed
  dot-mixed p m x z y = omega (arith, dot-plus (plus (times p x) (times m (negated x))) z y, dot-plus (times p x) (times m (negated x)) y, dot-times p x y, dot-times m (negated x) y)

  pub negated-mixed : {rows : List R} (p m : ℕ) (x z : Form rows) → negated (mixed p m x z) ≡ mixed p m (negated x) (negated z)
  unfolding mixed
  negated-mixed p m x z = negated-plus (plus (times p x) (times m (negated x))) z
      ∙ ap (λ y. plus y (negated z)) (negated-plus (times p x) (times m (negated x)) ∙ ap₂ (λ a b. plus a b) (negated-times p x) (negated-times m (negated x)))

  both_turned : {rows : List R} (x y : Form rows) → dot (negated x) (negated y) ≡ dot x y
  both_turned x y = dot-negated x (negated y) ∙ ap (λ z. dot x z) (negated-negated y)

  pub norm-mixed : {rows : List R} (p m : ℕ) (x z : Form rows) → dot (mixed p m x z) (mixed p m x z)
      ≡ (p * p + m * m) * dot x x + 2 * (p * m) * dot (negated x) x + dot z z + (2 * (p * dot x z) + 2 * (m * dot (negated x) z))
  norm-mixed p m x z =
      let a : dot x (mixed p m x z) ≡ p * dot x x + m * dot (negated x) x + dot x z = omega (arith, dot-sym x (mixed p m x z), dot-mixed p m x z x, dot-sym z x) in
      let b : dot (negated x) (mixed p m x z) ≡ p * dot (negated x) x + m * dot x x + dot (negated x) z =
      omega (
        arith,
        dot-sym (negated x) (mixed p m x z),
        dot-mixed p m x z (negated x),
        ap (λ n. p * n) (dot-negated x x),
        ap (λ n. m * n) (both_turned x x),
        dot-sym z (negated x),
      ) in
      let c : dot z (mixed p m x z) ≡ p * dot x z + m * dot (negated x) z + dot z z = dot-sym z (mixed p m x z) ∙ dot-mixed p m x z z in
      omega (arith, dot-mixed p m x z (mixed p m x z), ap (λ n. p * n) a, ap (λ n. m * n) b, c)

  pub cross-mixed : {rows : List R} (p m : ℕ) (x z : Form rows) → dot (negated (mixed p m x z)) (mixed p m x z)
      ≡ (p * p + m * m) * dot (negated x) x + 2 * (p * m) * dot x x + dot (negated z) z + (2 * (p * dot (negated x) z) + 2 * (m * dot x z))
  cross-mixed p m x z =
      let t : dot (negated (mixed p m x z)) (mixed p m x z) ≡ dot (mixed p m (negated x) (negated z)) (mixed p m x z) = ap (λ w. dot w (mixed p m x z)) (negated-mixed p m x z) in
      let s : dot (mixed p m (negated x) (negated z)) (mixed p m x z) ≡ p * dot (negated x) (mixed p m x z) + m * dot (negated (negated x)) (mixed p m x z) + dot (negated z) (mixed p m x z) =
      dot-mixed p m (negated x) (negated z) (mixed p m x z) in
      let u : dot (negated (negated x)) (mixed p m x z) ≡ dot x (mixed p m x z) = ap (λ w. dot w (mixed p m x z)) (negated-negated x) in
      let a : dot x (mixed p m x z) ≡ p * dot x x + m * dot (negated x) x + dot x z = omega (arith, dot-sym x (mixed p m x z), dot-mixed p m x z x, dot-sym z x) in
      let b : dot (negated x) (mixed p m x z) ≡ p * dot (negated x) x + m * dot x x + dot (negated x) z =
      omega (
        arith,
        dot-sym (negated x) (mixed p m x z),
        dot-mixed p m x z (negated x),
        ap (λ n. p * n) (dot-negated x x),
        ap (λ n. m * n) (both_turned x x),
        dot-sym z (negated x),
      ) in
      let c : dot (negated z) (mixed p m x z) ≡ p * dot (negated x) z + m * dot x z + dot (negated z) z =
      omega (
        arith,
        dot-sym (negated z) (mixed p m x z),
        dot-mixed p m x z (negated z),
        ap (λ n. p * n) (dot-negated x z),
        ap (λ n. m * n) (both_turned x z),
        dot-sym z (negated z),
      ) in
      omega (arith, t, s, ap (λ n. p * n) b, ap (λ n. m * n) (u ∙ a), c)

  -- ---- a vector times a form, and a form contracted with it

  unfoldable pub wedge : (c : Vector R) (rows : List R) → Form rows → Form rows
  wedge c [] (leaf p m) = leaf 0 0
  wedge c (row ∷ rows) (fork x y) = fork (wedge c rows x) (mixed (c.plus row) (c.minus row) x (negated (wedge c rows y)))

  unfoldable pub contracted : (c : Vector R) (rows : List R) → Form rows → Form rows
  contracted c [] (leaf p m) = leaf 0 0
  contracted c (row ∷ rows) (fork x y) = fork (mixed (c.plus row) (c.minus row) y (contracted c rows x)) (negated (contracted c rows y))

  pub wedge-negated : (c : Vector R) (rows : List R) (x : Form rows) → wedge c rows (negated x) ≡ negated (wedge c rows x)
  unfolding wedge negated
  wedge-negated c [] (leaf p m) = refl
  wedge-negated c (row ∷ rows) (fork x y) = ap₂ (λ a b. fork a b) (wedge-negated c rows x)
      (ap (λ z. mixed (c.plus row) (c.minus row) (negated x) (negated z)) (wedge-negated c rows y) ∙ sym (negated-mixed (c.plus row) (c.minus row) x (negated (wedge c rows y))))

  adjoint : (c : Vector R) (rows : List R) (x y : Form rows) → dot (contracted c rows x) y ≡ dot x (wedge c rows y)
  unfolding wedge contracted dot
  adjoint c [] (leaf p m) (leaf q n) = omega arith
  adjoint c (row ∷ rows) (fork x y) (fork z w) =
      let a : dot (negated (contracted c rows y)) w ≡ dot y (negated (wedge c rows w)) =
      dot-negated (contracted c rows y) w ∙ adjoint c rows y (negated w) ∙ ap (λ v. dot y v) (wedge-negated c rows w) in
      let b : dot y (mixed (c.plus row) (c.minus row) z (negated (wedge c rows w))) ≡ c.plus row * dot y z + c.minus row * dot (negated y) z + dot y (negated (wedge c rows w)) =
      omega (
        arith,
        dot-sym y (mixed (c.plus row) (c.minus row) z (negated (wedge c rows w))),
        dot-mixed (c.plus row) (c.minus row) z (negated (wedge c rows w)) y,
        ap (λ n. c.plus row * n) (dot-sym z y),
        ap (λ n. c.minus row * n) (dot-negated z y ∙ dot-sym z (negated y)),
        dot-sym (negated (wedge c rows w)) y,
      ) in
      omega (arith, a, b, adjoint c rows x z, dot-mixed (c.plus row) (c.minus row) y (contracted c rows x) z)

  -- ---- the norms: the squares of the differences are dot x x less dot (turned x) x

  unfoldable pub square_sum : Vector R → List R → ℕ
  square_sum c [] = 0
  square_sum c (row ∷ rows) = c.plus row * c.plus row + c.minus row * c.minus row + square_sum c rows

  unfoldable pub cross_sum : Vector R → List R → ℕ
  cross_sum c [] = 0
  cross_sum c (row ∷ rows) = 2 * (c.plus row * c.minus row) + cross_sum c rows

  pub norms : (c : Vector R) (rows : List R) (x : Form rows) →
      dot (wedge c rows x) (wedge c rows x) + dot (contracted c rows x) (contracted c rows x) + (square_sum c rows * dot (negated x) x + cross_sum c rows * dot x x)
      ≡ dot (negated (wedge c rows x)) (wedge c rows x) + dot (negated (contracted c rows x)) (contracted c rows x) + (square_sum c rows * dot x x + cross_sum c rows * dot (negated x) x)
  unfolding wedge contracted dot negated square_sum cross_sum
  norms c [] (leaf p m) = omega arith
  norms c (row ∷ rows) (fork x y) =
      let p : ℕ = c.plus row in
      let m : ℕ = c.minus row in
      let w : Form rows = wedge c rows y in
      let k : Form rows = contracted c rows x in
      let e : Form rows = contracted c rows y in
      let one : dot x (negated w) ≡ dot (negated x) w = sym (dot-negated x w) in
      let two : dot (negated x) (negated w) ≡ dot x w = both_turned x w in
      let three : dot y k ≡ dot x w = dot-sym y k ∙ adjoint c rows x y in
      let four : dot (negated y) k ≡ dot (negated x) w = dot-sym (negated y) k ∙ adjoint c rows x (negated y) ∙ ap (λ v. dot x v) (wedge-negated c rows y) ∙ one in
      omega (
        arith,
        norms c rows x,
        norms c rows y,
        norm-mixed p m x (negated w),
        cross-mixed p m x (negated w),
        norm-mixed p m y k,
        cross-mixed p m y k,
        both_turned w w,
        both_turned (negated w) w,
        both_turned e e,
        both_turned (negated e) e,
        ap (λ n. p * n) one,
        ap (λ n. m * n) one,
        ap (λ n. p * n) two,
        ap (λ n. m * n) two,
        ap (λ n. p * n) three,
        ap (λ n. m * n) three,
        ap (λ n. p * n) four,
        ap (λ n. m * n) four,
      )
