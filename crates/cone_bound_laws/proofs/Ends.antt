-- The columns of a solution's whole support have minor 0 in rows that are 0 at the solution.
use Rattle.std.proofs.Common.{◌≡◌, ◌≢◌, ℕ, ◌+◌, ◌*◌, ◌<◌, inl, inr, List, [], ◌∷◌, ◌++◌, map, length, slice_index, Bool, ap, sym, subst, refl, arith, append_assoc, ◌∙◌}
use Rattle.std.specs.List.{AllByRecursion}
use Rattle.std.proofs.lemmas.Bool.{cases_eq, cases_lt}
use Rattle.cone_definitions.specs.Vectors.{IsNonzero, unit}
use Rattle.cone_definitions.specs.Rows.{Row, plus_part, minus_part, IsZeroAt}
use Rattle.cone_definitions.proofs.Entries.{entry_past, same_vectors}
use Rattle.cone_definitions.proofs.Linear.{plus_linear, minus_linear}
use Rattle.cone_definitions.proofs.Units.{entry-unit_same, entry-unit_other}
use Rattle.cone_definitions.proofs.Solutions.{mul_cancel}
use Rattle.cone_bound_laws.proofs.Forms.{Column}
use Rattle.cone_bound_laws.proofs.Minors.{minor, minor_swaps, repeated_column}
use Rattle.cone_bound_laws.proofs.Built.{column_of, columns_of, Apart, Distinct, at, built, length-built, entry-built, sum_of_units, built_linear}
use Rattle.cone_bound_laws.proofs.Relations.{plus_sum, minus_sum, in_front, Related, related_minors}

-- the vector is not 0 at any of the columns
abbrev pub OfSupport : List ℕ → List ℕ → Type 0
OfSupport x js = AllByRecursion (λ j. slice_index x j ≢ 0) js

module _ (columns : ℕ) (free : ℕ → Bool) (x : List ℕ) (width : length x ≡ columns) where
  -- the columns with the vector's entries
  weights : List ℕ → List (ℕ × ℕ)
  weights js = map (λ j. (slice_index x j, j)) js

  fronts : List ℕ → List (ℕ × Column)
  fronts js = map (λ j. (slice_index x j, column_of columns free j)) js

  at_apart : (i : ℕ) (js : List ℕ) → Apart i js → at columns (weights js) i ≡ 0
  unfolding at weights
  at_apart i [] h = refl
  at_apart i (j ∷ js) h = let z : slice_index (unit columns j) i ≡ 0 = entry-unit_other columns j i h.0 in
      let e : slice_index x j * slice_index (unit columns j) i ≡ 0 = rw z (omega arith) in omega (arith, e, at_apart i js h.1)

  at_is : (i : ℕ) (js : List ℕ) → i < columns → Distinct js → (Apart i js → slice_index x i ≡ 0) → at columns (weights js) i ≡ slice_index x i
  unfolding at weights Distinct
  at_is i [] l d h = sym (h tt)
  at_is i (j ∷ js) l d h = elim (cases_eq i j) [
    | inl e ↦ subst (λ k. at columns (weights (j ∷ js)) k ≡ slice_index x k) (sym e) (same j js (subst (λ k. k < columns) e l) d.0)
    | inr ne ↦ let z : slice_index (unit columns j) i ≡ 0 = entry-unit_other columns j i ne in
        let f : slice_index x j * slice_index (unit columns j) i ≡ 0 = rw z (omega arith) in omega (arith, f, at_is i js l d.1 (λ a. h (ne, a)))
  ]
    where
      same : (j : ℕ) (js : List ℕ) → j < columns → Apart j js → at columns (weights (j ∷ js)) j ≡ slice_index x j
      same j js l a = let z : slice_index (unit columns j) j ≡ 1 = entry-unit_same columns j l in
          let f : slice_index x j * slice_index (unit columns j) j ≡ slice_index x j = rw z (omega arith) in omega (arith, f, at_apart j js a)

  -- if the vector is 0 off the columns, it is the sum of its multiples of their unit vectors
  x_is : (js : List ℕ) → Distinct js → ((i : ℕ) → Apart i js → slice_index x i ≡ 0) → x ≡ built columns (weights js)
  x_is js d h = same_vectors x (built columns (weights js)) (width ∙ sym (length-built columns (weights js))) (λ i. elim (cases_lt i columns) [
    | inl l ↦ sym (entry-built columns (weights js) i ∙ at_is i js l d (h i))
    | inr l ↦ entry_past x columns i width l ∙ sym (entry_past (built columns (weights js)) columns i (length-built columns (weights js)) l)
  ])

  plus_is : (row : Row) (js : List ℕ) → sum_of_units columns (plus_part row) (weights js) ≡ plus_sum row (fronts js)
  unfolding sum_of_units plus_sum weights fronts column_of
  plus_is row [] = refl
  plus_is row (j ∷ js) = ap (λ n. slice_index x j * plus_part row (unit columns j) + n) (plus_is row js)

  minus_is : (row : Row) (js : List ℕ) → sum_of_units columns (minus_part row) (weights js) ≡ minus_sum row (fronts js)
  unfolding sum_of_units minus_sum weights fronts column_of
  minus_is row [] = refl
  minus_is row (j ∷ js) = ap (λ n. slice_index x j * minus_part row (unit columns j) + n) (minus_is row js)

  related : (js : List ℕ) → x ≡ built columns (weights js) → (rows : List Row) → AllByRecursion (λ row. IsZeroAt row x) rows → Related (fronts js) rows
  unfolding Related
  related js e [] h = tt
  related js e (row ∷ rows) h = (
    sym (ap (plus_part row) e ∙ built_linear columns (plus_part row) (plus_linear row) (weights js) ∙ plus_is row js) ∙ h.0
        ∙ (ap (minus_part row) e ∙ built_linear columns (minus_part row) (minus_linear row) (weights js) ∙ minus_is row js),
    related js e rows h.1,
  )

  -- a column that occurs again further on
  fronts_repeat : (rows : List Row) (js : List ℕ) (before xs : List Column) → before ++ columns_of columns free js ≡ xs → in_front (minor rows).up (fronts js) xs ≡ in_front (minor rows).down (fronts js) xs
  unfolding in_front fronts
  fronts_repeat rows [] before xs e = refl
  fronts_repeat rows (j ∷ js) before xs e =
      let same : (minor rows).up (column_of columns free j ∷ xs) ≡ (minor rows).down (column_of columns free j ∷ xs) =
      subst (λ ys. (minor rows).up (column_of columns free j ∷ ys) ≡ (minor rows).down (column_of columns free j ∷ ys)) e
      (repeated_column before (minor rows).up (minor rows).down (minor_swaps rows) (column_of columns free j) (columns_of columns free js)) in
      omega (arith, ap (λ n. slice_index x j * n) same, fronts_repeat rows js (before ++ column_of columns free j ∷ []) xs (append_assoc before (column_of columns free j ∷ []) (columns_of columns free js) ∙ e))

  first_is : (rows : List Row) (j : ℕ) (js : List ℕ) → slice_index x j ≢ 0 → Related (fronts (j ∷ js)) rows → (minor rows).up (columns_of columns free (j ∷ js)) ≡ (minor rows).down (columns_of columns free (j ∷ js))
  unfolding in_front fronts
  first_is rows j js some h = let xs : List Column = columns_of columns free js in
      let e : slice_index x j * (minor rows).up (column_of columns free j ∷ xs) + in_front (minor rows).up (fronts js) xs
      ≡ slice_index x j * (minor rows).down (column_of columns free j ∷ xs) + in_front (minor rows).down (fronts js) xs = related_minors rows (fronts (j ∷ js)) h xs in
      mul_cancel (slice_index x j) ((minor rows).up (column_of columns free j ∷ xs)) ((minor rows).down (column_of columns free j ∷ xs)) (omega (arith, some)) (omega (arith, fronts_repeat rows js [] xs refl))

  pub no_whole_minor : (rows : List Row) (js : List ℕ) → Distinct js → OfSupport x js → ((i : ℕ) → Apart i js → slice_index x i ≡ 0) → IsNonzero x → AllByRecursion (λ row. IsZeroAt row x) rows →
      (minor rows).up (columns_of columns free js) ≡ (minor rows).down (columns_of columns free js)
  no_whole_minor rows [] d s off some zero = absurd (some.1 (off some.0 tt))
  no_whole_minor rows (j ∷ js) d s off some zero = first_is rows j js s.0 (related (j ∷ js) (x_is (j ∷ js) d off) rows zero)
