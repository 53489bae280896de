-- The value of a row at a unit vector is its coefficient in that column.
use Rattle.std.proofs.Common.{◌≡◌, ◌≢◌, ℕ, ◌*◌, ◌<◌, inl, inr, [], ◌∷◌, zero, suc, Bool, true, false, ℤ, pos, Contains, length, get_or, slice_index, subst, sym, ap, ◌∙◌, arith}
use Rattle.std.proofs.lemmas.Bool.{cases_lt}
use Rattle.std.proofs.lemmas.List.{get_or_default}
use Rattle.std.proofs.lemmas.List.Sums.{sum_by-cons}
use Rattle.cone_definitions.specs.Vectors.{unit}
use Rattle.cone_definitions.specs.Rows.{Row, plus_part, minus_part, positive_coefficient, negative_coefficient}
use Rattle.cone_definitions.proofs.Units.{entry-unit_same, entry-unit_other}
use Rattle.cone_arithmetic.specs.Sparse.{IsSparse}
use Rattle.cone_row_laws.proofs.Sums.{plus-negated, minus-negated}
use Rattle.lazy_columns.specs.Fresh.{one_or_minus_one, HasOne}
use Rattle.lazy_columns.proofs.Held.{parts_without}

-- the row has one term of the column
parts_at : (columns column : ℕ) (row : Row) (k : ℕ) → column < columns → k < length row → (get_or row k (0, pos 0)).0 ≡ column →
    ((i : ℕ) (d : ℕ × ℤ) → i < length row → i ≢ k → (get_or row i d).0 ≢ column) →
    (plus_part row (unit columns column) ≡ positive_coefficient (get_or row k (0, pos 0)).1) × (minus_part row (unit columns column) ≡ negative_coefficient (get_or row k (0, pos 0)).1)
parts_at columns column [] k within less is others = let no : ⊥ = omega (arith, less) in absurd no
parts_at columns column (term ∷ row) zero within less is others =
    let rest = parts_without columns column row (λ i d l. others (suc i) d (omega (arith, l)) (λ e. omega (arith, e))) in
    let here : slice_index (unit columns column) term.0 ≡ 1 = subst (λ n. slice_index (unit columns column) n ≡ 1) (sym is) (entry-unit_same columns column within) in (
      sum_by-cons (λ t. positive_coefficient t.1 * slice_index (unit columns column) t.0) term row ∙ rw (here, rest.0) (omega arith),
      sum_by-cons (λ t. negative_coefficient t.1 * slice_index (unit columns column) t.0) term row ∙ rw (here, rest.1) (omega arith),
    )
parts_at columns column (term ∷ row) (suc k) within less is others =
    let gone : slice_index (unit columns column) term.0 ≡ 0 = entry-unit_other columns column term.0 (others zero (0, pos 0) (omega arith) (λ e. omega (arith, e))) in
    let rest = parts_at columns column row k within (omega (arith, less)) is (λ i d l differs. others (suc i) d (omega (arith, l)) (λ e. differs (omega (arith, e)))) in (
      sum_by-cons (λ t. positive_coefficient t.1 * slice_index (unit columns column) t.0) term row ∙ rw (gone, rest.0) (omega arith),
      sum_by-cons (λ t. negative_coefficient t.1 * slice_index (unit columns column) t.0) term row ∙ rw (gone, rest.1) (omega arith),
    )

module _ (columns : ℕ) (row : Row) (column : ℕ) (coefficient : ℤ) (sparse : IsSparse row) (within : column < columns) (term : Contains row (column, coefficient)) where
  is_at : (d : ℕ × ℤ) → get_or row term.0 d ≡ (column, coefficient)
  is_at d = get_or_default row term.0 d (column, coefficient) term.1 ∙ term.2

  others : (i : ℕ) (d : ℕ × ℤ) → i < length row → i ≢ term.0 → (get_or row i d).0 ≢ column
  others i d less differs same =
      let e : (get_or row term.0 d).0 ≡ column = ap (λ (t : ℕ × ℤ). t.0) (is_at d) in
      elim (cases_lt i term.0) [
        | inl l ↦ let s = sparse.ascending i term.0 d l term.1 in omega (arith, s, e, same)
        | inr l ↦ elim (cases_lt term.0 i) [
          | inl m ↦ let s = sparse.ascending term.0 i d m less in omega (arith, s, e, same)
          | inr m ↦ differs (omega (arith, l, m))
        ]
      ]

  value : (get_or row term.0 (0, pos 0)).1 ≡ coefficient
  value = ap (λ (t : ℕ × ℤ). t.1) (is_at (0, pos 0))

  parts : (plus_part row (unit columns column) ≡ positive_coefficient (get_or row term.0 (0, pos 0)).1) × (minus_part row (unit columns column) ≡ negative_coefficient (get_or row term.0 (0, pos 0)).1)
  parts = parts_at columns column row term.0 within term.1 (ap (λ (t : ℕ × ℤ). t.0) (is_at (0, pos 0))) others

  pub has_one : (is_negated : Bool) → coefficient ≡ one_or_minus_one is_negated → HasOne columns row column is_negated
  has_one true is = (
    plus-negated row (unit columns column) ∙ parts.1 ∙ ap negative_coefficient (value ∙ is),
    minus-negated row (unit columns column) ∙ parts.0 ∙ ap positive_coefficient (value ∙ is),
  )
  has_one false is = (parts.0 ∙ ap positive_coefficient (value ∙ is), parts.1 ∙ ap negative_coefficient (value ∙ is))
