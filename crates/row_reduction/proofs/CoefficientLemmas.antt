-- The coefficient of a row at a column, and the terms that are cancelled there.
use Rattle.std.proofs.Common.{◌≡◌, ℕ, ◌<◌, inl, inr, ℤ, pos, negsuc, List, [], length, get_or, subst, sym, ap, ◌∙◌, arith, refl, Contains, w32, of_z, FitsSigned}
use Rattle.std.specs.Prelude.{unsigned_abs, Option, Some, None, IsNone}
use Rattle.std.proofs.lemmas.Int.{ints}
use Rattle.std.proofs.lemmas.Bool.{cases_lt}
use Rattle.std.proofs.lemmas.List.{get_or_default}
use Rattle.cone_definitions.specs.Rows.{Row}
use Rattle.cone_arithmetic.specs.Sparse.{IsSparse}
use Rattle.row_reduction.specs.Clearing.{IsUnitAt}
use Rattle.row_reduction.specs.Merging.{term_at, IsCoefficientSum}
use Rattle.row_reduction.specs.Eliminating.{IsUnit, HasNoTerm, CancelsAt, CancelsTerm}
use Rattle.row_reduction.proofs.ColumnLemmas.{AreBefore}

same_coefficient : (row : Row) (column : ℕ) (one other : ℤ) → IsSparse row → Contains row (column, one) → Contains row (column, other) → one ≡ other
same_coefficient row column one other sparse a b =
    let k = a.0 in let m = b.0 in
    let e : term_at row k ≡ (column, one) = get_or_default row k (0, pos 0) (column, one) a.1 ∙ a.2 in
    let f : term_at row m ≡ (column, other) = get_or_default row m (0, pos 0) (column, other) b.1 ∙ b.2 in
    let e_column = ap (λ (term : ℕ × ℤ). term.0) e in
    let f_column = ap (λ (term : ℕ × ℤ). term.0) f in
    elim (cases_lt k m) [
      | inl l ↦ let s = sparse.ascending k m (0, pos 0) l b.1 in let no : ⊥ = omega (arith, s, e_column, f_column) in absurd no
      | inr l ↦ elim (cases_lt m k) [
        | inl n ↦ let s = sparse.ascending m k (0, pos 0) n a.1 in let no : ⊥ = omega (arith, s, e_column, f_column) in absurd no
        | inr n ↦ let is : k ≡ m = omega arith in ap (λ (term : ℕ × ℤ). term.1) (sym e ∙ ap (term_at row) is ∙ f)
      ]
    ]

unit_found : (row : Row) (column : ℕ) (coefficient : ℤ) → IsSparse row → Contains row (column, coefficient) → IsUnitAt column row → IsUnit coefficient
unit_found row column coefficient sparse c (inl u) = inl (same_coefficient row column coefficient (pos 1) sparse c u)
unit_found row column coefficient sparse c (inr u) = inr (same_coefficient row column coefficient (negsuc 0) sparse c u)

-- no term is of the column if those before the index are of columns before it, and the one at the index is of a later
-- one
none_found : (row : Row) (place column : ℕ) (coefficient : ℤ) → IsSparse row → AreBefore row place column → (place < length row → column < (term_at row place).0) → Contains row (column, coefficient) → ⊥
none_found row place column coefficient sparse before after c =
    let k = c.0 in
    let e : (term_at row k).0 ≡ column = ap (λ (term : ℕ × ℤ). term.0) (get_or_default row k (0, pos 0) (column, coefficient) c.1 ∙ c.2) in
    elim (cases_lt k place) [
      | inl l ↦ let b = before k l in omega (arith, b, e)
      | inr l ↦ let a = after (let m = c.1 in omega arith) in elim (cases_lt place k) [
        | inl m ↦ let s = sparse.ascending place k (0, pos 0) m c.1 in omega (arith, s, a, e)
        | inr m ↦ let is : k ≡ place = omega arith in let f = ap (λ i. (term_at row i).0) is in omega (arith, f, a, e)
      ]
    ]

pub no_term : (row : Row) (place column : ℕ) → IsSparse row → AreBefore row place column → (place < length row → column < (term_at row place).0) → HasNoTerm row column
no_term row place column sparse before after coefficient c = none_found row place column coefficient sparse before after c

pub some_term : (row : Row) (place : ℕ) → IsSparse row → place < length row → (term_at row place).1 ≡ pos 0 → ⊥
some_term row place sparse within e = let n = sparse.nonzero place (0, pos 0) within in omega (arith, ints, n, e)

pub no_unit : (row : Row) (place column : ℕ) → IsSparse row → AreBefore row place column → (place < length row → column < (term_at row place).0) → IsUnitAt column row → ⊥
no_unit row place column sparse before after (inl u) = none_found row place column (pos 1) sparse before after u
no_unit row place column sparse before after (inr u) = none_found row place column (negsuc 0) sparse before after u

-- ---- a term is cancelled

not_zero : (unit : ℤ) → IsUnit unit → unit ≡ pos 0 → ⊥
not_zero unit (inl u) e = omega (arith, ints, u, e)
not_zero unit (inr u) e = omega (arith, ints, u, e)

-- the coefficient of a pivot row at its column
pub unit_of : (row : Row) (column : ℕ) (unit : ℤ) → IsUnitAt column row → (IsUnitAt column row → IsUnit unit) → ((unit ≡ pos 0 → ⊥) → Contains row (column, unit)) →
    Contains row (column, unit) × IsUnit unit
unit_of row column unit has is found = let u = is has in (found (not_zero unit u), u)

-- by a pivot row
pub cancels_by : (row : Row) (coefficient factor : ℤ) (pivot : Row) (column : ℕ) (unit : ℤ) → ((coefficient ≡ pos 0 → ⊥) → Contains row (column, coefficient)) →
    (of_z w32 coefficient ≡ 0 → ⊥) → Contains pivot (column, unit) → IsUnit unit → (IsUnit unit → IsCoefficientSum coefficient factor unit (pos 0)) → CancelsAt column row factor pivot
cancels_by row coefficient factor pivot column unit has nonzero pivot_has is sum = record {
  coefficient = coefficient;
  other_coefficient = unit;
  has = has (λ e. nonzero (ap (of_z w32) e));
  other_has = pivot_has;
  none_left = sum is;
}

pub none_left : (row : Row) (column : ℕ) (coefficient : ℤ) → FitsSigned w32 coefficient → (coefficient ≡ pos 0 → HasNoTerm row column) → of_z w32 coefficient ≡ 0 → HasNoTerm row column
none_left row column coefficient fits none zero_now = none (omega (arith, ints, fits, zero_now))

-- the row at a place
module _ (rows : List Row) (i : ℕ) (row : Row) (column : ℕ) (within : i < length rows) (is : row ≡ get_or rows i row) where
  pub cancels_at : (factor : ℤ) (pivot : Row) → CancelsAt column row factor pivot → CancelsAt column (get_or rows i []) factor pivot
  cancels_at factor pivot = subst (λ r. CancelsAt column r factor pivot) (is ∙ sym (get_or_default rows i [] row within))

  pub none_at : (factor : Option ℤ) → ((f : ℤ) → factor ≡ Some f → ⊥) → (IsNone factor → HasNoTerm row column) → HasNoTerm (get_or rows i []) column
  none_at None other none = subst (λ r. HasNoTerm r column) (is ∙ sym (get_or_default rows i [] row within)) (none refl)
  none_at (Some f) other none = absurd (other f refl)

-- by a row that has an equal or opposite coefficient there
pub thins_shared : (row other : Row) (i j : ℕ) (factor : ℤ) → i < length row → j < length other → (term_at other j).0 ≡ (term_at row i).0 → IsUnit factor →
    IsCoefficientSum (term_at row i).1 factor (term_at other j).1 (pos 0) → CancelsTerm row factor other
thins_shared row other i j factor within other_within same unit sum = record {
  unit = unit;
  column = (term_at row i).0;
  cancels = record {
    coefficient = (term_at row i).1;
    other_coefficient = (term_at other j).1;
    has = (i, within, get_or_default row i (term_at row i) (0, pos 0) within);
    other_has = (j, other_within, get_or_default other j ((term_at row i).0, (term_at other j).1) (0, pos 0) other_within ∙ ap (λ n. (n, (term_at other j).1)) same);
    none_left = sum;
  };
}

pub unit_at : (row : Row) (place column : ℕ) → IsSparse row → place < length row → (term_at row place).0 ≡ column → IsUnitAt column row → IsUnit (term_at row place).1
unit_at row place column sparse within is u = unit_found row column (term_at row place).1 sparse
    (place, within, get_or_default row place (column, (term_at row place).1) (0, pos 0) within ∙ ap (λ n. (n, (term_at row place).1)) is) u

-- ---- the row at an index has coefficient 1 or -1 at the column, or has not

one_abs : (number : ℤ) → unsigned_abs number ≡ 1 → IsUnit number
one_abs (pos n) e = inl (ap (λ m. pos m) e)
one_abs (negsuc n) e = let z : n ≡ 0 = omega (arith, e) in inr (ap (λ m. negsuc m) z)

unit_abs : (number : ℤ) → IsUnit number → unsigned_abs number ≡ 1
unit_abs number (inl e) = ap unsigned_abs e
unit_abs number (inr e) = ap unsigned_abs e

module _ (rows : List Row) (place : ℕ) (row : Row) (column : ℕ) (coefficient : ℤ) (magnitude : ℕ) (within : place < length rows) (is : row ≡ get_or rows place row) where
  same_row : row ≡ get_or rows place []
  same_row = is ∙ sym (get_or_default rows place [] row within)

  pub abs_of_unit : (IsUnitAt column row → IsUnit coefficient) → magnitude ≡ unsigned_abs coefficient → IsUnitAt column (get_or rows place []) → magnitude ≡ 1
  abs_of_unit unit e h = e ∙ unit_abs coefficient (unit (subst (IsUnitAt column) (sym same_row) h))

  pub unit_from_abs : ((coefficient ≡ pos 0 → ⊥) → Contains row (column, coefficient)) → magnitude ≡ unsigned_abs coefficient → magnitude ≡ 1 → IsUnitAt column (get_or rows place [])
  unit_from_abs found e one = subst (IsUnitAt column) same_row (here (one_abs coefficient (sym e ∙ one)))
    where
      here : IsUnit coefficient → IsUnitAt column row
      here (inl p) = inl (subst (λ z. Contains row (column, z)) p (found (not_zero coefficient (inl p))))
      here (inr p) = inr (subst (λ z. Contains row (column, z)) p (found (not_zero coefficient (inr p))))
