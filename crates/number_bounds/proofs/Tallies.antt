-- Sums of squares and of sizes, with one more term or row.
use Rattle.std.proofs.Common.{◌≡◌, ◌≢◌, ℕ, zero, suc, ◌+◌, ◌*◌, ◌<◌, ◌≤◌, ℤ, pos, negsuc, inl, inr, List, [], ◌∷◌, take, length, get_or, slice_index_or, slice_set, refl, All, ap, ap₂, sym, subst, ◌∙◌, arith}
use Rattle.std.specs.Prelude.{◌==◌, unsigned_abs, if◌then◌else◌}
use Rattle.std.proofs.lemmas.Bool.{cases_eq}
use Rattle.std.proofs.lemmas.Bool.Decides.{nat_tests}
use Rattle.std.proofs.lemmas.List.{get_or-set_same, get_or-set_other, get_or_default}
use Rattle.std.specs.List.{AllPairs, sum_by}
use Rattle.std.proofs.lemmas.List.Sums.{sum_by_more, sum_by-cons}
use Rattle.std.proofs.lemmas.List.Elements.{All-head, All-tail}
use Rattle.cone_definitions.specs.Rows.{Row}
use Rattle.cone_bound_laws.specs.Caps.{magnitude, row_weight, row_size}
use Rattle.cone_square_laws.specs.Squares.{sum_of_squares}

pub magnitude_is : (z : ℤ) → unsigned_abs z ≡ magnitude z
magnitude_is (pos n) = omega arith
magnitude_is (negsuc n) = omega arith

pub size_more : (row : Row) (i old new n : ℕ) → i < length row → old ≡ row_size (take i row) → new ≡ old + n → n ≡ unsigned_abs (get_or row i (0, pos 0)).1 →
    new ≡ row_size (take (i + 1) row)
size_more row i old new n l so_far is one =
    is ∙ ap₂ (λ a b. a + b) so_far (one ∙ magnitude_is (get_or row i (0, pos 0)).1) ∙ sym (sum_by_more (λ (term : ℕ × ℤ). magnitude term.1) row i (0, pos 0) l)

pub greatest_more : (rows : List Row) (i old new size : ℕ) (row : Row) → ((k : ℕ) → k < i → row_size (get_or rows k []) ≤ old) → (old ≤ new) × (size ≤ new) → size ≡ row_size row →
    row ≡ get_or rows i [] → (k : ℕ) → k < i + 1 → row_size (get_or rows k []) ≤ new
greatest_more rows i old new size row before most is same k l = elim (cases_eq k i) [
  | inl e ↦ let n : size ≡ row_size (get_or rows k []) = is ∙ ap (λ r. row_size r) same ∙ ap (λ j. row_size (get_or rows j [])) (sym e) in omega (arith, n, most.1)
  | inr ne ↦ let b = before k (omega arith) in omega (arith, b, most.0)
]

pub all_small : (rows : List Row) (i greatest : ℕ) → ((k : ℕ) → k < i → row_size (get_or rows k []) ≤ greatest) → length rows ≤ i → All (λ row. row_size row ≤ greatest) rows
all_small rows i greatest before exceeded k d l = subst (λ r. row_size r ≤ greatest) (get_or_default rows k [] d l) (before k (omega arith))

pub own : (column j n : ℕ) → j ≡ column → (if column == j then n else 0) ≡ n
own column j n e = grind (arith, nat_tests)

other : (column j n : ℕ) → j ≢ column → (if column == j then n else 0) ≡ 0
other column j n ne = grind (arith, nat_tests)

-- the squares of a row's entries in one column, added
abbrev pub row_square : ℕ → Row → ℕ
row_square column row = sum_by (λ term. if term.0 == column then magnitude term.1 * magnitude term.1 else 0) row

no_weight_after : (j : ℕ) (row : Row) → All (λ (term : ℕ × ℤ). j < term.0) row → (row_weight j row ≡ 0) × (row_square j row ≡ 0)
no_weight_after j [] h = (refl, refl)
no_weight_after j (term ∷ row) h =
    let l : j < term.0 = All-head (λ (t : ℕ × ℤ). j < t.0) term row h in
    let rest = no_weight_after j row (All-tail (λ (t : ℕ × ℤ). j < t.0) term row h) in (
      omega (arith, sum_by-cons (λ (t : ℕ × ℤ). if t.0 == j then magnitude t.1 else 0) term row, other term.0 j (magnitude term.1) (omega arith), rest.0),
      omega (arith, sum_by-cons (λ (t : ℕ × ℤ). if t.0 == j then magnitude t.1 * magnitude t.1 else 0) term row, other term.0 j (magnitude term.1 * magnitude term.1) (omega arith), rest.1),
    )

-- if each column occurs once, their sum is the square of the weight
pub row_square_is : (j : ℕ) (row : Row) → AllPairs (λ (one other : ℕ × ℤ). one.0 < other.0) row → row_square j row ≡ row_weight j row * row_weight j row
row_square_is j [] h = refl
row_square_is j (term ∷ row) h =
    let w : row_weight j (term ∷ row) ≡ (if term.0 == j then magnitude term.1 else 0) + row_weight j row = sum_by-cons (λ (t : ℕ × ℤ). if t.0 == j then magnitude t.1 else 0) term row in
    let s : row_square j (term ∷ row) ≡ (if term.0 == j then magnitude term.1 * magnitude term.1 else 0) + row_square j row =
    sum_by-cons (λ (t : ℕ × ℤ). if t.0 == j then magnitude t.1 * magnitude t.1 else 0) term row in
    elim (cases_eq j term.0) [
      | inl e ↦
          let after : All (λ (t : ℕ × ℤ). j < t.0) row = λ k d l. subst (λ i. i < (slice_index_or row k d).0) (sym e) (h zero (suc k) d (omega arith) (omega arith)) in
          let none = no_weight_after j row after in
          let a : row_weight j (term ∷ row) ≡ magnitude term.1 = omega (arith, w, own term.0 j (magnitude term.1) e, none.0) in
          let b : row_square j (term ∷ row) ≡ magnitude term.1 * magnitude term.1 = omega (arith, s, own term.0 j (magnitude term.1 * magnitude term.1) e, none.1) in
          b ∙ sym (ap (λ n. n * n) a)
      | inr ne ↦
          let rest : row_square j row ≡ row_weight j row * row_weight j row = row_square_is j row (λ i k d less l. h (suc i) (suc k) d (omega arith) (omega arith)) in
          let a : row_weight j (term ∷ row) ≡ row_weight j row = omega (arith, w, other term.0 j (magnitude term.1) ne) in
          let b : row_square j (term ∷ row) ≡ row_square j row = omega (arith, s, other term.0 j (magnitude term.1 * magnitude term.1) ne) in
          b ∙ rest ∙ sym (ap (λ n. n * n) a)
    ]

pub squares_more : (old start : List ℕ) (row : Row) (i sum n : ℕ) → i < length row → (get_or row i (0, pos 0)).0 < length old →
    ((j : ℕ) → get_or old j 0 ≡ get_or start j 0 + row_square j (take i row)) → sum ≡ get_or old (get_or row i (0, pos 0)).0 0 + n →
    n ≡ magnitude (get_or row i (0, pos 0)).1 * magnitude (get_or row i (0, pos 0)).1 →
    (j : ℕ) → get_or (slice_set old (get_or row i (0, pos 0)).0 sum) j 0 ≡ get_or start j 0 + row_square j (take (i + 1) row)
squares_more old start row i sum n l within so_far is one j =
    let z : ℤ = (get_or row i (0, pos 0)).1 in
    let more : row_square j (take (i + 1) row) ≡ row_square j (take i row) + (if (get_or row i (0, pos 0)).0 == j then magnitude z * magnitude z else 0) =
    sum_by_more (λ (term : ℕ × ℤ). if term.0 == j then magnitude term.1 * magnitude term.1 else 0) row i (0, pos 0) l in
    elim (cases_eq j (get_or row i (0, pos 0)).0) [
      | inl e ↦
          let a : get_or (slice_set old (get_or row i (0, pos 0)).0 sum) j 0 ≡ sum =
          ap (λ k. get_or (slice_set old (get_or row i (0, pos 0)).0 sum) k 0) e ∙ get_or-set_same old (get_or row i (0, pos 0)).0 sum 0 within in
          let b : get_or old (get_or row i (0, pos 0)).0 0 ≡ get_or old j 0 = ap (λ k. get_or old k 0) (sym e) in
          let m = own (get_or row i (0, pos 0)).0 j (magnitude z * magnitude z) e in
          omega (arith, a, b, m, one, more, is, so_far j)
      | inr ne ↦
          let a : get_or (slice_set old (get_or row i (0, pos 0)).0 sum) j 0 ≡ get_or old j 0 = get_or-set_other old (get_or row i (0, pos 0)).0 j sum 0 ne in
          let m = other (get_or row i (0, pos 0)).0 j (magnitude z * magnitude z) ne in
          omega (arith, a, m, more, so_far j)
    ]

pub rows_more : (rows : List Row) (i : ℕ) (row : Row) (old lent new kept : List ℕ) → i < length rows → row ≡ get_or rows i [] → ((j : ℕ) → get_or old j 0 ≡ sum_of_squares (take i rows) j) →
    lent ≡ old → ((j : ℕ) → get_or new j 0 ≡ get_or lent j 0 + row_weight j row * row_weight j row) → kept ≡ new → (j : ℕ) → get_or kept j 0 ≡ sum_of_squares (take (i + 1) rows) j
rows_more rows i row old lent new kept l same so_far is adds refill j =
    ap (λ xs. get_or xs j 0) refill ∙ adds j ∙ ap₂ (λ a b. a + b) (ap (λ xs. get_or xs j 0) is ∙ so_far j) (ap (λ r. row_weight j r * row_weight j r) same)
    ∙ sym (sum_by_more (λ r. row_weight j r * row_weight j r) rows i [] l)
