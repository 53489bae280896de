-- Linear functions of forms, and the choices with the first row.
use Rattle.std.proofs.Common.{◌≡◌, ℕ, ◌+◌, ◌*◌, List, [], ◌∷◌, ap, ap₂, arith, refl, ◌∙◌}
use Rattle.cone_square_laws.proofs.Algebra.{Form, leaf, fork, Vector, negated, plus, times, none, mixed, wedge, negated-plus, negated-times}
use Rattle.cone_square_laws.proofs.Products.{unit, wedges, top}

pub record IsLinear {R : Type 0} (rows : List R) (f : Form rows → ℕ) : Type 0 where
  pub adds : (x y : Form rows) → f (plus R x y) ≡ f x + f y
  pub scales : (k : ℕ) (x : Form rows) → f (times R k x) ≡ k * f x
  pub zero : f (none R rows) ≡ 0

module _ (R : Type 0) where
  -- ---- a vector times sums and multiples

  mixed-plus : {rows : List R} (p m : ℕ) (x y z w : Form rows) → mixed R p m (plus R x y) (plus R z w) ≡ plus R (mixed R p m x z) (mixed R p m y w)
  unfolding mixed plus times negated
  mixed-plus p m (leaf a b) (leaf c d) (leaf e f) (leaf g h) = ap₂ (λ i j. leaf i j) (omega arith) (omega arith)
  mixed-plus p m (fork a b) (fork c d) (fork e f) (fork g h) = ap₂ (λ i j. fork i j) (mixed-plus p m a c e g) (mixed-plus p m b d f h)

  mixed-times : {rows : List R} (p m k : ℕ) (x z : Form rows) → mixed R p m (times R k x) (times R k z) ≡ times R k (mixed R p m x z)
  unfolding mixed plus times negated
  mixed-times p m k (leaf a b) (leaf c d) = ap₂ (λ i j. leaf i j) (omega arith) (omega arith)
  mixed-times p m k (fork a b) (fork c d) = ap₂ (λ i j. fork i j) (mixed-times p m k a c) (mixed-times p m k b d)

  mixed-none : (rows : List R) (p m : ℕ) → mixed R p m (none R rows) (none R rows) ≡ none R rows
  unfolding mixed plus times negated none
  mixed-none [] p m = ap₂ (λ i j. leaf i j) (omega arith) (omega arith)
  mixed-none (row ∷ rows) p m = ap₂ (λ i j. fork i j) (mixed-none rows p m) (mixed-none rows p m)

  negated-none : (rows : List R) → negated R (none R rows) ≡ none R rows
  unfolding negated none
  negated-none [] = refl
  negated-none (row ∷ rows) = ap₂ (λ i j. fork i j) (negated-none rows) (negated-none rows)

  wedge-plus : (c : Vector R) (rows : List R) (x y : Form rows) → wedge R c rows (plus R x y) ≡ plus R (wedge R c rows x) (wedge R c rows y)
  unfolding wedge plus
  wedge-plus c [] (leaf a b) (leaf d e) = refl
  wedge-plus c (row ∷ rows) (fork a b) (fork d e) = ap₂ (λ i j. fork i j) (wedge-plus c rows a d)
      (ap (λ z. mixed R (c.plus row) (c.minus row) (plus R a d) z) (ap (negated R) (wedge-plus c rows b e) ∙ negated-plus R (wedge R c rows b) (wedge R c rows e))
      ∙ mixed-plus (c.plus row) (c.minus row) a d (negated R (wedge R c rows b)) (negated R (wedge R c rows e)))

  wedge-times : (c : Vector R) (rows : List R) (k : ℕ) (x : Form rows) → wedge R c rows (times R k x) ≡ times R k (wedge R c rows x)
  unfolding wedge times
  wedge-times c [] k (leaf a b) = ap₂ (λ i j. leaf i j) (omega arith) (omega arith)
  wedge-times c (row ∷ rows) k (fork a b) = ap₂ (λ i j. fork i j) (wedge-times c rows k a)
      (ap (λ z. mixed R (c.plus row) (c.minus row) (times R k a) z) (ap (negated R) (wedge-times c rows k b) ∙ negated-times R k (wedge R c rows b))
      ∙ mixed-times (c.plus row) (c.minus row) k a (negated R (wedge R c rows b)))

  wedge-none : (c : Vector R) (rows : List R) → wedge R c rows (none R rows) ≡ none R rows
  unfolding wedge none
  wedge-none c [] = refl
  wedge-none c (row ∷ rows) = ap₂ (λ i j. fork i j) (wedge-none c rows)
      (ap (λ z. mixed R (c.plus row) (c.minus row) (none R rows) z) (ap (negated R) (wedge-none c rows) ∙ negated-none rows) ∙ mixed-none rows (c.plus row) (c.minus row))

  -- ---- linear functions

  pub linear_turned : (rows : List R) (f : Form rows → ℕ) → IsLinear rows f → IsLinear rows (λ x. f (negated R x))
  linear_turned rows f h = record {
    adds = λ x y. ap f (negated-plus R x y) ∙ h.adds (negated R x) (negated R y);
    scales = λ k x. ap f (negated-times R k x) ∙ h.scales k (negated R x);
    zero = ap f (negated-none rows) ∙ h.zero;
  }

  pub linear_behind : (c : Vector R) (rows : List R) (f : Form rows → ℕ) → IsLinear rows f → IsLinear rows (λ x. f (wedge R c rows x))
  linear_behind c rows f h = record {
    adds = λ x y. ap f (wedge-plus c rows x y) ∙ h.adds (wedge R c rows x) (wedge R c rows y);
    scales = λ k x. ap f (wedge-times c rows k x) ∙ h.scales k (wedge R c rows x);
    zero = ap f (wedge-none c rows) ∙ h.zero;
  }

  pub linear_next : (c : Vector R) (rows : List R) (f : Form rows → ℕ) → IsLinear rows f → IsLinear rows (λ x. f (negated R (wedge R c rows x)))
  linear_next c rows f h = linear_behind c rows (λ x. f (negated R x)) (linear_turned rows f h)

  pub linear_top : (rows : List R) → IsLinear rows (top R)
  unfolding top plus times none
  linear_top rows = record { adds = top-plus; scales = top-times; zero = top-none rows }
    where
      top-plus : {some : List R} (x y : Form some) → top R (plus R x y) ≡ top R x + top R y
      top-plus (leaf p m) (leaf q n) = refl
      top-plus (fork x y) (fork z w) = top-plus y w

      top-times : {some : List R} (k : ℕ) (x : Form some) → top R (times R k x) ≡ k * top R x
      top-times k (leaf p m) = refl
      top-times k (fork x y) = top-times k y

      top-none : (some : List R) → top R (none R some) ≡ 0
      top-none [] = refl
      top-none (row ∷ some) = top-none some

  pub linear_mixed : (rows : List R) (f : Form rows → ℕ) → IsLinear rows f → (p m : ℕ) (x z : Form rows) → f (mixed R p m x z) ≡ p * f x + m * f (negated R x) + f z
  unfolding mixed
  linear_mixed rows f h p m x z = omega (arith, h.adds (plus R (times R p x) (times R m (negated R x))) z, h.adds (times R p x) (times R m (negated R x)), h.scales p x, h.scales m (negated R x))

  -- ---- products over one more row

  -- the choices with this row
  unfoldable pub with_row : R → (rows : List R) → List (Vector R) → Form rows
  with_row row rows [] = none R rows
  with_row row rows (c ∷ cs) = mixed R (c.plus row) (c.minus row) (wedges R rows cs) (negated R (wedge R c rows (with_row row rows cs)))

  pub row_more : (row : R) (rows : List R) (cs : List (Vector R)) → wedges R (row ∷ rows) cs ≡ fork (wedges R rows cs) (with_row row rows cs)
  unfolding wedges unit with_row wedge
  row_more row rows [] = refl
  row_more row rows (c ∷ cs) = ap (wedge R c (row ∷ rows)) (row_more row rows cs)
