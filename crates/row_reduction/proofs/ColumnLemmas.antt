-- The coefficients of two rows at the column of a merge, and the sum there that exceeds the limit.
use Rattle.std.proofs.Common.{◌≡◌, ℕ, ◌<◌, ◌≤◌, ◌⊎◌, inl, inr, ℤ, pos, length, sym, ap, ap₂, ◌∙◌, arith}
use Rattle.std.specs.Prelude.{unsigned_abs}
use Rattle.std.proofs.lemmas.Bool.{cases_lt}
use Rattle.std.proofs.lemmas.List.{get_or_default}
use Rattle.cone_definitions.specs.Rows.{Row}
use Rattle.cone_arithmetic.specs.Sparse.{IsSparse, IsInRange}
use Rattle.row_reduction.specs.declared.fault.SolveFault.{SolveFault}
use Rattle.row_reduction.specs.declared.fault.SolveFault.TheVariants.{Passed, NoMemory}
use Rattle.row_reduction.specs.Merging.{next_column, term_at, IsTaken, IsLeastColumn}
use Rattle.row_reduction.specs.Passing.{IsCoefficientAt, PassesSum, PassesAtColumn, IfPassed}
use Rattle.row_reduction.proofs.PlaceLemmas.{next_within, next_past, taken_before}

-- the terms before the index are of columns before this one
abbrev pub AreBefore : Row → ℕ → ℕ → Type 0
AreBefore row place column = (k : ℕ) → k < place → (term_at row k).0 < column

pub own_before : (columns : ℕ) (row : Row) (place : ℕ) → IsSparse row → IsInRange columns row → place ≤ length row → AreBefore row place (next_column columns row place)
own_before columns row place sparse range within k h = elim (cases_lt place (length row)) [
  | inl l ↦ let e = next_within columns row place l in let a = sparse.ascending k place (0, pos 0) h l in omega (arith, e, a)
  | inr l ↦ let e = next_past columns row place l in let r = range k (0, pos 0) (omega arith) in omega (arith, e, r)
]

pub both_before : (row : Row) (place column one two : ℕ) → (column ≡ one) ⊎ (column ≡ two) → AreBefore row place one → AreBefore row place two → AreBefore row place column
both_before row place column one two (inl e) h k i less = let a = h i less in omega (arith, e, a)
both_before row place column one two (inr e) h k i less = let a = k i less in omega (arith, e, a)

pub before_more : (row : Row) (place column : ℕ) (coefficient : ℤ) (next most : ℕ) → IsTaken row place column coefficient next → AreBefore row place column → column < most →
    AreBefore row next most
before_more row place column coefficient next most (inl t) before less k h = elim (cases_lt k place) [
  | inl l ↦ let a = before k l in omega (arith, a, less)
  | inr l ↦ let n = t.after in let e : k ≡ place = omega arith in let c : (term_at row k).0 ≡ column = ap (λ i. (term_at row i).0) e ∙ t.is_column in omega (arith, c, less)
]
before_more row place column coefficient next most (inr t) before less k h = let s = t.stays in let a = before k (omega arith) in omega (arith, a, less)

pub coefficient_is : (columns : ℕ) (row : Row) (place column : ℕ) (coefficient : ℤ) (next : ℕ) → IsSparse row → AreBefore row place column → column ≤ next_column columns row place →
    IsTaken row place column coefficient next → IsCoefficientAt row column coefficient
coefficient_is columns row place column coefficient next sparse before low (inl t) =
    inl (place, t.in_range, get_or_default row place (column, coefficient) (0, pos 0) t.in_range ∙ ap₂ (λ a b. (a, b)) t.is_column (sym t.is_coefficient))
coefficient_is columns row place column coefficient next sparse before low (inr t) = inr (t.none, λ k d h e. separate k h (sym (ap (λ (term : ℕ × ℤ). term.0) (get_or_default row k d (0, pos 0) h)) ∙ e))
  where
    later : (k : ℕ) → place ≤ k → k < length row → (term_at row k).0 ≡ column → ⊥
    later k l h e =
        let p : place < length row = omega arith in
        let n = next_within columns row place p in
        let o = t.other_column p in
        elim (cases_lt place k) [
          | inl m ↦ let a = sparse.ascending place k (0, pos 0) m h in omega (arith, n, a, e, low)
          | inr m ↦ let is : k ≡ place = omega arith in o (sym (ap (λ i. (term_at row i).0) is) ∙ e)
        ]

    separate : (k : ℕ) → k < length row → (term_at row k).0 ≡ column → ⊥
    separate k h e = elim (cases_lt k place) [
      | inl l ↦ let a = before k l in omega (arith, a, e)
      | inr l ↦ later k l h e
    ]

pub bounded_at : (row : Row) (place column : ℕ) (coefficient : ℤ) (next : ℕ) → IsSparse row → IsTaken row place column coefficient next → unsigned_abs coefficient ≤ 1000000
bounded_at row place column coefficient next sparse (inl t) = rw t.is_coefficient (sparse.bounded place (0, pos 0) t.in_range)
bounded_at row place column coefficient next sparse (inr t) = rw t.none (omega arith)

pub fault_at_column : (row : Row) (factor : ℤ) (other : Row) (column : ℕ) (one two : ℤ) → IsCoefficientAt row column one → IsCoefficientAt other column two →
    (fault : SolveFault) → IfPassed (PassesSum one factor two) fault → IfPassed (PassesAtColumn row factor other) fault
fault_at_column row factor other column one two is other_is Passed p =
    record { column = column; coefficient = one; other_coefficient = two; is = is; other_is = other_is; passes = p }
fault_at_column row factor other column one two is other_is NoMemory p = tt

-- one more column of a merge
module _ (columns : ℕ) (row : Row) (i : ℕ) (other : Row) (j column : ℕ) (one : ℤ) (after_i : ℕ) (two : ℤ) (after_j : ℕ)
    (taken : IsTaken row i column one after_i) (taken_other : IsTaken other j column two after_j) (least : IsLeastColumn columns row i other j column)
    (sparse : IsSparse row) (other_sparse : IsSparse other) (range : IsInRange columns row) (other_range : IsInRange columns other) (within : i ≤ length row) (other_within : j ≤ length other)
    (before : AreBefore row i (next_column columns other j)) (other_before : AreBefore other j (next_column columns row i)) where
  row_at : AreBefore row i column
  row_at = both_before row i column (next_column columns row i) (next_column columns other j) least.is (own_before columns row i sparse range within) before

  other_at : AreBefore other j column
  other_at = both_before other j column (next_column columns row i) (next_column columns other j) least.is other_before (own_before columns other j other_sparse other_range other_within)

  pub row_before_more : AreBefore row after_i (next_column columns other after_j)
  row_before_more = before_more row i column one after_i (next_column columns other after_j) taken row_at
      (taken_before columns other j column two after_j other_sparse taken_other least.low_other least.in_range)

  pub other_before_more : AreBefore other after_j (next_column columns row after_i)
  other_before_more = before_more other j column two after_j (next_column columns row after_i) taken_other other_at
      (taken_before columns row i column one after_i sparse taken least.low least.in_range)

  pub fault_in_merge : (factor : ℤ) (fault : SolveFault) → IfPassed (PassesSum one factor two) fault → IfPassed (PassesAtColumn row factor other) fault
  fault_in_merge factor = fault_at_column row factor other column one two (coefficient_is columns row i column one after_i sparse row_at least.low taken)
      (coefficient_is columns other j column two after_j other_sparse other_at least.low_other taken_other)
