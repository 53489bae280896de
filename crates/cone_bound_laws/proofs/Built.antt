-- Vectors built of multiples of unit vectors, and the one whose entries are minors.
use Rattle.std.proofs.Common.{◌≡◌, ◌≢◌, ℕ, ◌+◌, ◌*◌, ◌≤◌, ◌<◌, List, [], ◌∷◌, map, length, slice_index, arith, sym, subst, refl, Bool, inl, inr, ◌∙◌}
use Rattle.std.specs.List.{AllByRecursion}
use Rattle.std.proofs.lemmas.Bool.{cases_eq}
use Rattle.cone_definitions.specs.Vectors.{unit}
use Rattle.cone_definitions.specs.Rows.{Row, plus_part, minus_part}
use Rattle.cone_definitions.proofs.Entries.{vector_of, length-vector_of, entry_everywhere, entry_past}
use Rattle.cone_definitions.proofs.Linear.{IsLinear, plus_linear, minus_linear, linear_zero}
use Rattle.cone_definitions.proofs.Units.{length-unit, entry-unit_same, entry-unit_other}
use Rattle.cone_bound_laws.proofs.Forms.{Column, behind, cut}
use Rattle.cone_bound_laws.proofs.Minors.{IsWithin}
use Rattle.cone_bound_laws.proofs.Weights.{Sub, skip, keep, all_of, flip}

-- a column of the rows: their values at its unit vector
unfoldable pub column_of : ℕ → (ℕ → Bool) → ℕ → Column
column_of columns free j = record { plus = λ row. plus_part row (unit columns j); minus = λ row. minus_part row (unit columns j); free = free j }

-- ---- lists of column numbers

abbrev pub Apart : ℕ → List ℕ → Type 0
Apart i js = AllByRecursion (λ j. i ≢ j) js

unfoldable pub Distinct : List ℕ → Type 0
Distinct [] = Unit {0}
Distinct (j ∷ js) = Apart j js × Distinct js

module _ (columns : ℕ) where
  -- ---- a vector of multiples, each with its column

  unfoldable pub at : List (ℕ × ℕ) → ℕ → ℕ
  at [] i = 0
  at (t ∷ ts) i = t.0 * slice_index (unit columns t.1) i + at ts i

  at_past : (ts : List (ℕ × ℕ)) (i : ℕ) → columns ≤ i → at ts i ≡ 0
  unfolding at
  at_past [] i h = refl
  at_past (t ∷ ts) i h = let z : slice_index (unit columns t.1) i ≡ 0 = entry_past (unit columns t.1) columns i (length-unit columns t.1) h in rw z (omega (arith, at_past ts i h))

  pub built : List (ℕ × ℕ) → List ℕ
  built ts = vector_of columns (at ts)

  pub length-built : (ts : List (ℕ × ℕ)) → length (built ts) ≡ columns
  unfolding built
  length-built ts = length-vector_of columns (at ts)

  pub entry-built : (ts : List (ℕ × ℕ)) (i : ℕ) → slice_index (built ts) i ≡ at ts i
  unfolding built
  entry-built ts i = entry_everywhere columns (at ts) (at_past ts) i

  -- the value of a linear function at it
  unfoldable pub sum_of_units : (List ℕ → ℕ) → List (ℕ × ℕ) → ℕ
  sum_of_units f [] = 0
  sum_of_units f (t ∷ ts) = t.0 * f (unit columns t.1) + sum_of_units f ts

  pub built_linear : (f : List ℕ → ℕ) → IsLinear f → (ts : List (ℕ × ℕ)) → f (built ts) ≡ sum_of_units f ts
  unfolding at sum_of_units
  built_linear f lin [] = linear_zero f lin (built []) (entry-built [])
  built_linear f lin (t ∷ ts) = let e : 1 * f (built (t ∷ ts)) ≡ t.0 * f (unit columns t.1) + 1 * f (built ts) =
      lin.splits 1 t.0 1 (built (t ∷ ts)) (unit columns t.1) (built ts) (λ i. omega (arith, entry-built (t ∷ ts) i, entry-built ts i)) in omega (arith, built_linear f lin ts)

  -- ---- the vector of minors: each column with the form at the others

  module _ (free : ℕ → Bool) where
    abbrev pub columns_of : List ℕ → List Column
    columns_of js = map (column_of columns free) js

    pub terms : (List Column → ℕ) → (List Column → ℕ) → List ℕ → List (ℕ × ℕ)
    terms f g [] = []
    terms f g (j ∷ js) = (f (columns_of js), j) ∷ terms (behind (column_of columns free j) g) (behind (column_of columns free j) f) js

    terms_cut : (row : Row) (js : List ℕ) (f g : List Column → ℕ) →
        sum_of_units (plus_part row) (terms f g js) + sum_of_units (minus_part row) (terms g f js) ≡ cut row f g (columns_of js)
    unfolding terms sum_of_units cut column_of
    terms_cut row [] f g = omega arith
    terms_cut row (j ∷ js) f g = omega (arith, terms_cut row js (behind (column_of columns free j) g) (behind (column_of columns free j) f))

    pub value_is_cut : (row : Row) (js : List ℕ) (f g : List Column → ℕ) →
        plus_part row (built (terms f g js)) + minus_part row (built (terms g f js)) ≡ cut row f g (columns_of js)
    value_is_cut row js f g = omega (arith, built_linear (plus_part row) (plus_linear row) (terms f g js), built_linear (minus_part row) (minus_linear row) (terms g f js), terms_cut row js f g)

    -- ---- its entries

    at_apart : (i : ℕ) (js : List ℕ) (f g : List Column → ℕ) → Apart i js → at (terms f g js) i ≡ 0
    unfolding at terms
    at_apart i [] f g h = refl
    at_apart i (j ∷ js) f g h = let z : slice_index (unit columns j) i ≡ 0 = entry-unit_other columns j i h.0 in
        let r : at (terms (behind (column_of columns free j) g) (behind (column_of columns free j) f) js) i ≡ 0 = at_apart i js (behind (column_of columns free j) g) (behind (column_of columns free j) f) h.1 in
        rw z (omega (arith, r))

    pub entry_apart : (i : ℕ) (js : List ℕ) (f g : List Column → ℕ) → Apart i js → slice_index (built (terms f g js)) i ≡ 0
    entry_apart i js f g h = entry-built (terms f g js) i ∙ at_apart i js f g h

    at_first : (j : ℕ) (js : List ℕ) (f g : List Column → ℕ) → j < columns → Apart j js → at (terms f g (j ∷ js)) j ≡ f (columns_of js)
    unfolding at terms
    at_first j js f g l h = let z : slice_index (unit columns j) j ≡ 1 = entry-unit_same columns j l in
        let r : at (terms (behind (column_of columns free j) g) (behind (column_of columns free j) f) js) j ≡ 0 = at_apart j js (behind (column_of columns free j) g) (behind (column_of columns free j) f) h in
        rw z (omega (arith, r))

    pub entry_first : (j : ℕ) (js : List ℕ) (f g : List Column → ℕ) → j < columns → Apart j js → slice_index (built (terms f g (j ∷ js))) j ≡ f (columns_of js)
    entry_first j js f g l h = entry-built (terms f g (j ∷ js)) j ∙ at_first j js f g l h

    at_within : (b i : ℕ) (js : List ℕ) (f g : List Column → ℕ) → i < columns → Distinct js → ((ys : List Column) → Sub ys (columns_of js) → IsWithin b (f ys) (g ys)) →
        IsWithin b (at (terms f g js) i) (at (terms g f js) i)
    unfolding at terms Distinct
    at_within b i [] f g l d h = record { above = omega arith; below = omega arith }
    at_within b i (j ∷ js) f g l d h = elim (cases_eq i j) [
      | inl e ↦ let w : IsWithin b (f (columns_of js)) (g (columns_of js)) = h (columns_of js) (skip (all_of (columns_of js))) in
          subst (λ k. IsWithin b (at (terms f g (j ∷ js)) k) (at (terms g f (j ∷ js)) k)) (sym e)
          (record {
            above = omega (arith, w.above, at_first j js f g (subst (λ k. k < columns) e l) d.0, at_first j js g f (subst (λ k. k < columns) e l) d.0);
            below = omega (arith, w.below, at_first j js f g (subst (λ k. k < columns) e l) d.0, at_first j js g f (subst (λ k. k < columns) e l) d.0);
          })
      | inr ne ↦ let z : slice_index (unit columns j) i ≡ 0 = entry-unit_other columns j i ne in
          let c : Column = column_of columns free j in
          let w : IsWithin b (at (terms (behind c g) (behind c f) js) i) (at (terms (behind c f) (behind c g) js) i) =
          at_within b i js (behind c g) (behind c f) l d.1 (λ ys s. flip b (f (c ∷ ys)) (g (c ∷ ys)) (h (c ∷ ys) (keep s))) in
          record { above = rw z (omega (arith, w.above)); below = rw z (omega (arith, w.below)) }
    ]

    pub entry_within : (b i : ℕ) (js : List ℕ) (f g : List Column → ℕ) → i < columns → Distinct js → ((ys : List Column) → Sub ys (columns_of js) → IsWithin b (f ys) (g ys)) →
        IsWithin b (slice_index (built (terms f g js)) i) (slice_index (built (terms g f js)) i)
    entry_within b i js f g l d h = let w : IsWithin b (at (terms f g js) i) (at (terms g f js) i) = at_within b i js f g l d h in
        record { above = omega (arith, w.above, entry-built (terms f g js) i, entry-built (terms g f js) i); below = omega (arith, w.below, entry-built (terms f g js) i, entry-built (terms g f js) i) }
