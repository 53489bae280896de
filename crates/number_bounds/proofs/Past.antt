-- What exceeds a bound: a row, a column, the product of the sums of squares, or the bounds that follow from them.
use Rattle.std.proofs.Common.{◌≡◌, ℕ, zero, suc, ◌+◌, ◌*◌, ◌<◌, ◌≤◌, ℤ, pos, Bool, true, false, Option, None, Some, IfNone, ◌⊎◌, inl, inr, List, [], ◌∷◌, take, length, get_or, max, refl, ap, ap₂, sym, subst, ◌∙◌, arith}
use Rattle.std.specs.Prelude.{◌==◌, ◌↔◌, nat_le, unsigned_abs, if◌then◌else◌, IsTrue, IsFalse}
use Rattle.std.specs.List.{All, AllPairs, Any}
use Rattle.std.proofs.lemmas.Bool.{cases_lt, iff_false, false≢true}
use Rattle.std.proofs.lemmas.Bool.Decides.{nat_tests}
use Rattle.std.proofs.lemmas.List.{get_or_default}
use Rattle.std.proofs.lemmas.List.Sums.{sum_by_more_le, sum_by-le-sum_by, sum_by-cons}
use Rattle.std.proofs.lemmas.List.Elements.{All-head, All-tail}
use Rattle.std.proofs.lemmas.Nat.{mul-le}
use Rattle.basic_lemmas.proofs.Truths.{chosen_at_most}
use Rattle.cone_definitions.specs.Rows.{Row}
use Rattle.cone_definitions.specs.Systems.{System}
use Rattle.cone_bound_laws.specs.Caps.{magnitude, row_weight, row_size, caps_product}
use Rattle.cone_square_laws.specs.Squares.{sum_of_squares}
use Rattle.number_bounds.specs.Columns.{cap_by, squares_product}
use Rattle.number_bounds.specs.Squares.{AreSquares}
use Rattle.number_bounds.proofs.Tallies.{magnitude_is, own, row_square, row_square_is}
use Rattle.number_bounds.proofs.ColumnCaps.{product_more, some_cap}

-- what holds in any case holds if there is nothing
pub if_none : {A : Type 0} (o : Option A) {P : Type 0} → P → IfNone o P
if_none None p = p
if_none (Some x) p = tt

-- a number that is not below the bound reaches it
pub reached : (n most : ℕ) → (n < most → ⊥) → most ≤ n
reached n most fails = elim (cases_lt n most) [ inl less ↦ absurd (fails less) | inr more ↦ more ]

pub refused : (result : Bool) (n limit : ℕ) → (IsTrue result ↔ (n ≤ limit)) → IsFalse result → limit < n
refused result n limit exact is = elim (cases_lt limit n) [ inl more ↦ more | inr within ↦ absurd (iff_false exact is within) ]

pub is_within : (most n limit : ℕ) → most ≡ n → IsTrue (nat_le most limit) ↔ (n ≤ limit)
is_within most n limit is = (λ yes. grind (arith, nat_tests), λ within. grind (arith, nat_tests))

pub is_past : (n limit most : ℕ) → limit < most → most ≤ n → IsTrue false ↔ (n ≤ limit)
is_past n limit most small exceeded = (λ no. absurd (false≢true no), λ within. absurd (omega arith))

-- if the terms so far and the next one reach the bound, the row does
pub size_past : (row : Row) (i old n most : ℕ) → i < length row → old ≡ row_size (take i row) → n ≡ unsigned_abs (get_or row i (0, pos 0)).1 → most ≤ old + n → most ≤ row_size row
size_past row i old n most l so_far one exceeded =
    let whole = sum_by_more_le (λ (term : ℕ × ℤ). magnitude term.1) row i (0, pos 0) l in
    let m : n ≡ magnitude (get_or row i (0, pos 0)).1 = one ∙ magnitude_is (get_or row i (0, pos 0)).1 in
    omega (arith, whole, m, so_far, exceeded)

pub square_past : (old start : List ℕ) (row : Row) (i n most : ℕ) → AllPairs (λ (one other : ℕ × ℤ). one.0 < other.0) row → i < length row →
    ((j : ℕ) → get_or old j 0 ≡ get_or start j 0 + row_square j (take i row)) → n ≡ magnitude (get_or row i (0, pos 0)).1 * magnitude (get_or row i (0, pos 0)).1 →
    most ≤ get_or old (get_or row i (0, pos 0)).0 0 + n →
    most ≤ get_or start (get_or row i (0, pos 0)).0 0 + row_weight (get_or row i (0, pos 0)).0 row * row_weight (get_or row i (0, pos 0)).0 row
square_past old start row i n most ascending l so_far one exceeded =
    let column : ℕ = (get_or row i (0, pos 0)).0 in
    let z : ℤ = (get_or row i (0, pos 0)).1 in
    let whole : row_square column (take i row) + (if column == column then magnitude z * magnitude z else 0) ≤ row_square column row =
    sum_by_more_le (λ (term : ℕ × ℤ). if term.0 == column then magnitude term.1 * magnitude term.1 else 0) row i (0, pos 0) l in
    omega (arith, whole, one, own column column (magnitude z * magnitude z) refl, so_far column, exceeded, row_square_is column row ascending)

pub column_past : (rows : List Row) (i j most : ℕ) (row : Row) (old lent : List ℕ) → i < length rows → row ≡ get_or rows i [] → get_or old j 0 ≡ sum_of_squares (take i rows) j → lent ≡ old →
    most ≤ get_or lent j 0 + row_weight j row * row_weight j row → most ≤ sum_of_squares rows j
column_past rows i j most row old lent l same so_far is exceeded =
    let whole = sum_by_more_le (λ r. row_weight j r * row_weight j r) rows i [] l in
    let a : get_or lent j 0 ≡ sum_of_squares (take i rows) j = ap (λ xs. get_or xs j 0) is ∙ so_far in
    let b : row_weight j row * row_weight j row ≡ row_weight j (get_or rows i []) * row_weight j (get_or rows i []) = ap (λ r. row_weight j r * row_weight j r) same in
    omega (arith, whole, a, b, exceeded)

-- what holds at an index of the rows holds of some row
pub any_at : (P : Row → Type 0) (rows : List Row) (k : ℕ) → k < length rows → P (get_or rows k []) → Any P rows
any_at P rows k l p = (k, get_or rows k [], l, sym (get_or_default rows k [] (get_or rows k []) l), p)

-- one more row: the greatest size is the one before or the new row's
pub attained_more : (rows : List Row) (i old new size : ℕ) (row : Row) → (old ≡ 0) ⊎ ((k : ℕ) × (k < i) × (row_size (get_or rows k []) ≡ old)) → new ≡ max size old →
    size ≡ row_size row → row ≡ get_or rows i [] → (new ≡ 0) ⊎ ((k : ℕ) × (k < i + 1) × (row_size (get_or rows k []) ≡ new))
attained_more rows i old new size row before greater is same =
    let here : row_size (get_or rows i []) ≡ size = sym (is ∙ ap (λ r. row_size r) same) in
    elim (cases_lt old size) [
      | inl l ↦ let e : new ≡ size = omega (arith, greater, l) in inr (i, omega arith, here ∙ sym e)
      | inr l ↦
          let e : new ≡ old = omega (arith, greater, l) in
          elim before [
            | inl none ↦ inl (e ∙ none)
            | inr some ↦ inr (some.0, omega (arith, some.1), some.2 ∙ sym e)
          ]
    ]

pub attained_all : (rows : List Row) (i greatest : ℕ) → (greatest ≡ 0) ⊎ ((k : ℕ) × (k < i) × (row_size (get_or rows k []) ≡ greatest)) → i ≤ length rows →
    (greatest ≡ 0) ⊎ Any (λ row. row_size row ≡ greatest) rows
attained_all rows i greatest before within = elim before [
  | inl none ↦ inl none
  | inr some ↦ inr (any_at (λ row. row_size row ≡ greatest) rows some.0 (omega (arith, some.1, within)) some.2)
]

-- the product of more caps is at least as great
pub caps_up : (cap : ℕ → ℕ) (some : (g : ℕ) → 1 ≤ cap g) (n m : ℕ) → n ≤ m → caps_product cap n ≤ caps_product cap m
unfolding caps_product
caps_up cap some n zero l = let e : n ≡ 0 = omega arith in rw e (omega arith)
caps_up cap some n (suc m) l = elim (cases_lt m n) [
  | inl less ↦ let e : n ≡ suc m = omega arith in rw e (omega arith)
  | inr more ↦
      let before = caps_up cap some n m more in
      let step : 1 * caps_product cap m ≤ cap m * caps_product cap m = mul-le 1 (caps_product cap m) (cap m) (caps_product cap m) (some m) (omega arith) in
      omega (arith, before, step)
]

-- if the product so far and the next factor reach the bound, the whole product does
pub product_past : (squares : List ℕ) (i old factor most : ℕ) → i < length squares → old ≡ caps_product (cap_by squares) i → factor ≡ cap_by squares i → most ≤ old * factor →
    most ≤ caps_product (cap_by squares) (length squares)
product_past squares i old factor most l so_far one exceeded =
    let here = product_more (cap_by squares) i old (old * factor) factor so_far one refl in
    let up = caps_up (cap_by squares) (some_cap squares) (i + 1) (length squares) (omega arith) in
    omega (arith, here, up, exceeded)

-- the computed product is that of the columns
pub squares_are : (system : System) (squares : List ℕ) → AreSquares system squares → caps_product (cap_by squares) (length squares) ≡ squares_product system
squares_are system squares summed = λ i. caps_product (λ column. max (summed.each column i) 1) (summed.count i)

-- if no row has a nonzero size, no column has a weight, and the product is 1
pub ones : (cap : ℕ → ℕ) (n : ℕ) → ((g : ℕ) → cap g ≡ 1) → caps_product cap n ≡ 1
unfolding caps_product
ones cap zero one = refl
ones cap (suc n) one = ap₂ (λ a b. a * b) (one n) (ones cap n one)

weight_within : (row : Row) (j : ℕ) → row_weight j row ≤ row_size row
weight_within row j = sum_by-le-sum_by (λ (term : ℕ × ℤ). if term.0 == j then magnitude term.1 else 0) (λ (term : ℕ × ℤ). magnitude term.1) row (λ term. chosen_at_most (term.0 == j) (magnitude term.1))

pub no_square : (rows : List Row) (j : ℕ) → All (λ row. row_size row ≤ 0) rows → sum_of_squares rows j ≡ 0
no_square [] j none = refl
no_square (row ∷ rows) j none =
    let size : row_size row ≤ 0 = All-head (λ r. row_size r ≤ 0) row rows none in
    let z : row_weight j row ≡ 0 = omega (arith, weight_within row j, size) in
    let square : row_weight j row * row_weight j row ≡ 0 = ap (λ n. n * n) z in
    let rest = no_square rows j (All-tail (λ r. row_size r ≤ 0) row rows none) in
    omega (arith, sum_by-cons (λ r. row_weight j r * row_weight j r) row rows, square, rest)

pub no_product : (system : System) → All (λ row. row_size row ≤ 0) system.rows → squares_product system ≡ 1
no_product system none = ones (λ column. max (sum_of_squares system.rows column) 1) system.columns (λ j. ap (λ w. max w 1) (no_square system.rows j none))

-- a positive multiple of a product that exceeds the limit exceeds the limit
pub large_past : (size product limit : ℕ) → 1 ≤ size → limit < product → limit < size * product
large_past size product limit some exceeded = let more : 1 * product ≤ size * product = mul-le 1 product size product some (omega arith) in omega (arith, more, exceeded)

-- if the greatest size times a product exceeds the limit, the size of some row does
pub past_limit : (rows : List Row) (limit size product whole : ℕ) → (size ≡ 0) ⊎ Any (λ row. row_size row ≡ size) rows → product ≡ whole → limit < size * product →
    Any (λ row. limit < row_size row * whole) rows
past_limit rows limit size product whole attained is exceeded = elim attained [
  | inl none ↦ absurd (let l : limit < 0 * product = subst (λ s. limit < s * product) none exceeded in omega (arith, l))
  | inr some ↦
      let one : limit < size * whole = subst (λ p. limit < size * p) is exceeded in
      (some.0, some.1, some.2, some.3, subst (λ s. limit < s * whole) (sym some.4) one)
]

-- the size of some row times the product exceeds the limit also if the product alone does, since some row has a nonzero
-- size
pub past_product : (rows : List Row) (limit size most whole : ℕ) → All (λ row. row_size row ≤ size) rows → (size ≡ 0) ⊎ Any (λ row. row_size row ≡ size) rows →
    (All (λ row. row_size row ≤ 0) rows → whole ≡ 1) → most ≤ whole → limit < most → 1 < most → Any (λ row. limit < row_size row * whole) rows
past_product rows limit size most whole small attained alone large within two = elim (cases_lt 0 size) [
  | inl some ↦ past_limit rows limit size whole whole attained refl (large_past size whole limit some (omega arith))
  | inr none ↦ absurd (
      let nothing : All (λ row. row_size row ≤ 0) rows = subst (λ s. All (λ row. row_size row ≤ s) rows) (let e : size ≡ 0 = omega arith in e) small in
      let one = alone nothing in
      omega (arith, one, large, two))
]
