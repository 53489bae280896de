-- The term read at an index of a row: its column comes before those that are left, and the index advances.
use Rattle.std.proofs.Common.{◌≡◌, ℕ, ◌+◌, ◌<◌, ◌≤◌, ◌⊎◌, inl, inr, ℤ, pos, map, length, sym, ap, ◌∙◌, arith, min}
use Rattle.std.proofs.lemmas.Bool.{cases_lt}
use Rattle.std.proofs.lemmas.List.{get_or-map, get_or_past, length-map}
use Rattle.cone_definitions.specs.Rows.{Row}
use Rattle.cone_arithmetic.specs.Sparse.{IsSparse, IsInRange}
use Rattle.row_reduction.specs.Merging.{next_column, term_at, IsTaken, IsLeastColumn}

column_of : ℕ × ℤ → ℕ
column_of term = term.0

pub next_within : (columns : ℕ) (row : Row) (place : ℕ) → place < length row → next_column columns row place ≡ (term_at row place).0
unfolding column_of
next_within columns row place h = get_or-map column_of row place (0, pos 0) columns h

pub next_past : (columns : ℕ) (row : Row) (place : ℕ) → length row ≤ place → next_column columns row place ≡ columns
unfolding column_of
next_past columns row place h = get_or_past (map column_of row) place columns (let e = length-map row column_of in omega (arith, e))

pub next_in_range : (columns : ℕ) (row : Row) (place : ℕ) → IsInRange columns row → place < length row → next_column columns row place < columns
next_in_range columns row place h l = let e = next_within columns row place l in let k = h place (0, pos 0) l in omega (arith, e, k)

-- the columns that are left come after the one that was read
pub taken_before : (columns : ℕ) (row : Row) (place column : ℕ) (coefficient : ℤ) (next : ℕ) → IsSparse row → IsTaken row place column coefficient next →
    column ≤ next_column columns row place → column < columns → column < next_column columns row next
taken_before columns row place column coefficient next sparse (inl t) low less = elim (cases_lt next (length row)) [
  | inl h ↦ let e = next_within columns row next h in
      let a = sparse.ascending place next (0, pos 0) (let n = t.after in omega arith) h in
      let c = t.is_column in omega (arith, e, a, c)
  | inr h ↦ let e = next_past columns row next h in omega (arith, e)
]
taken_before columns row place column coefficient next sparse (inr t) low less = elim (cases_lt next (length row)) [
  | inl h ↦ let s = t.stays in let l : place < length row = omega arith in
      let e = next_within columns row place l in
      let n = t.other_column l in
      let m : next_column columns row next ≡ next_column columns row place = ap (next_column columns row) s in
      omega (arith, e, n, m)
  | inr h ↦ let e = next_past columns row next h in omega (arith, e)
]

pub taken_within : (row : Row) (place column : ℕ) (coefficient : ℤ) (next : ℕ) → place ≤ length row → IsTaken row place column coefficient next →
    (place ≤ next) × (next ≤ length row)
taken_within row place column coefficient next h (inl t) = let a = t.after in let r = t.in_range in (omega arith, omega arith)
taken_within row place column coefficient next h (inr t) = let s = t.stays in (omega arith, omega arith)

-- the index advances at the column of its term
pub taken_moves : (columns : ℕ) (row : Row) (place column : ℕ) (coefficient : ℤ) (next : ℕ) → IsTaken row place column coefficient next →
    column ≡ next_column columns row place → column < columns → (place < length row) × (next ≡ place + 1)
taken_moves columns row place column coefficient next (inl t) is less = (t.in_range, t.after)
taken_moves columns row place column coefficient next (inr t) is less = elim (cases_lt place (length row)) [
  | inl h ↦ absurd (t.other_column h (sym (next_within columns row place h) ∙ sym is))
  | inr h ↦ let e = next_past columns row place h in let no : ⊥ = omega (arith, e, is, less) in absurd no
]

pub min_is : (m a b : ℕ) → m ≡ min a b → (m ≡ a) ⊎ (m ≡ b)
min_is m a b e = elim (cases_lt a b) [
  | inl h ↦ inl (omega arith)
  | inr h ↦ inr (omega arith)
]

pub least_of_both : (columns : ℕ) (row : Row) (i : ℕ) (other : Row) (j column : ℕ) → (i < length row) ⊎ (j < length other) → IsInRange columns row → IsInRange columns other →
    column ≡ min (next_column columns row i) (next_column columns other j) → IsLeastColumn columns row i other j column
least_of_both columns row i other j column left h k e = record {
  low = omega arith;
  low_other = omega arith;
  is = min_is column (next_column columns row i) (next_column columns other j) e;
  in_range = elim left [
    | inl l ↦ let n = next_in_range columns row i h l in omega (arith, e, n)
    | inr l ↦ let n = next_in_range columns other j k l in omega (arith, e, n)
  ];
}
