-- What the certificate implies for lists of columns.
use Rattle.std.proofs.Common.{◌≡◌, ℕ, ◌+◌, ◌*◌, ◌<◌, ◌≤◌, inl, inr, List, [], ◌∷◌, All, ℤ, slice_index, Bool, true, false, cond, sym, subst, arith, ap, refl, sum_by, mul-le-mul}
use Rattle.std.specs.Prelude.{◌==◌}
use Rattle.std.proofs.lemmas.Bool.{cases_eq, cases_Bool, eq-eqb, ne_eqb}
use Rattle.std.proofs.lemmas.List.Sums.{sum_by-cons}
use Rattle.std.proofs.lemmas.List.Elements.{All-head, All-tail}
use Rattle.cone_definitions.specs.Vectors.{unit}
use Rattle.cone_definitions.specs.Rows.{Row, plus_part, minus_part, positive_coefficient, negative_coefficient}
use Rattle.cone_definitions.proofs.Units.{entry-unit_same, entry-unit_other}
use Rattle.cone_bound_laws.specs.Caps.{magnitude, plus_in, minus_in, row_weight, column_weight}
use Rattle.cone_bound_laws.proofs.Forms.{Column}
use Rattle.cone_bound_laws.proofs.Weights.{weight, factor, product, Sub, skip, keep, total, total-sub, free_plus, free_minus}
use Rattle.cone_bound_laws.proofs.Bounded.{GraphLike}
use Rattle.cone_bound_laws.proofs.Built.{column_of, columns_of, Apart, Distinct}
use Rattle.cone_bound_laws.proofs.Groups.{bound_product}
use Rattle.cone_bound_laws.proofs.Supports.{Below}

-- a sum over the terms of a row, each by a weight of its coefficient
abbrev pub term_sum : (ℤ → ℕ) → Row → List ℕ → ℕ
term_sum weigh row x = sum_by (λ t. weigh t.1 * slice_index x t.0) row

module _ (columns : ℕ) where
  -- ---- the weight of a column

  term_at : (j : ℕ) → j < columns → (i p m : ℕ) → p * slice_index (unit columns j) i + m * slice_index (unit columns j) i ≡ cond (i == j) (p + m) 0
  term_at j l i p m = elim (cases_eq i j) [
    | inl e ↦ let z : slice_index (unit columns j) i ≡ 1 = subst (λ k. slice_index (unit columns j) k ≡ 1) (sym e) (entry-unit_same columns j l) in
        let t : cond {A = ℕ} (i == j) (p + m) 0 ≡ p + m = ap (λ b. cond {A = ℕ} b (p + m) 0) (eq-eqb i j e) in rw z (omega (arith, t))
    | inr ne ↦ let z : slice_index (unit columns j) i ≡ 0 = entry-unit_other columns j i ne in
        let t : cond {A = ℕ} (i == j) (p + m) 0 ≡ 0 = ap (λ b. cond {A = ℕ} b (p + m) 0) (ne_eqb i j ne) in rw z (omega (arith, t))
  ]

  parts_at_unit : (j : ℕ) → j < columns → (row : Row) → plus_part row (unit columns j) + minus_part row (unit columns j) ≡ row_weight j row
  parts_at_unit j l [] = refl
  parts_at_unit j l (term ∷ row) = omega (
    arith,
    sum_by-cons (λ (t : ℕ × ℤ). positive_coefficient t.1 * slice_index (unit columns j) t.0) term row,
    sum_by-cons (λ (t : ℕ × ℤ). negative_coefficient t.1 * slice_index (unit columns j) t.0) term row,
    sum_by-cons (λ (t : ℕ × ℤ). cond (t.0 == j) (magnitude t.1) 0) term row,
    term_at j l term.0 (positive_coefficient term.1) (negative_coefficient term.1),
    parts_at_unit j l row,
  )

  pub weight_is : (free : ℕ → Bool) (j : ℕ) → j < columns → (rows : List Row) → weight (column_of columns free j) rows ≡ column_weight rows j
  unfolding weight column_of
  weight_is free j l [] = refl
  weight_is free j l (row ∷ rows) = omega (arith, parts_at_unit j l row, sum_by-cons (row_weight j) row rows, weight_is free j l rows)

  -- ---- the entries of a row in the free columns of a list

  -- k times the entries at column t of the unit vectors of the free columns
  single : (ℕ → Bool) → ℕ → ℕ → List ℕ → ℕ
  single free k t [] = 0
  single free k t (j ∷ js) = cond (free j) (k * slice_index (unit columns j) t) 0 + single free k t js

  cond_zero : (b : Bool) (n : ℕ) → n ≡ 0 → cond b n 0 ≡ 0
  cond_zero true n e = e
  cond_zero false n e = refl

  single_apart : (free : ℕ → Bool) (k t : ℕ) (js : List ℕ) → Apart t js → single free k t js ≡ 0
  unfolding single
  single_apart free k t [] h = refl
  single_apart free k t (j ∷ js) h = let z : slice_index (unit columns j) t ≡ 0 = entry-unit_other columns j t h.0 in
      let e : k * slice_index (unit columns j) t ≡ 0 = rw z (omega arith) in omega (arith, cond_zero (free j) (k * slice_index (unit columns j) t) e, single_apart free k t js h.1)

  single_is : (free : ℕ → Bool) (k t : ℕ) (js : List ℕ) → Distinct js → Below columns js → single free k t js ≤ cond (free t) k 0
  unfolding single Distinct
  single_is free k t [] d b = omega arith
  single_is free k t (j ∷ js) d b = elim (cases_eq t j) [
    | inl e ↦ subst (λ i. single free k i (j ∷ js) ≤ cond (free i) k 0) (sym e) (same j js d.0 b.0)
    | inr ne ↦ let z : slice_index (unit columns j) t ≡ 0 = entry-unit_other columns j t ne in
        let f : k * slice_index (unit columns j) t ≡ 0 = rw z (omega arith) in omega (arith, cond_zero (free j) (k * slice_index (unit columns j) t) f, single_is free k t js d.1 b.1)
  ]
    where
      same : (j : ℕ) (js : List ℕ) → Apart j js → j < columns → single free k j (j ∷ js) ≤ cond (free j) k 0
      same j js a l = let z : slice_index (unit columns j) j ≡ 1 = entry-unit_same columns j l in let f : k * slice_index (unit columns j) j ≡ k = rw z (omega arith) in
          let g : cond {A = ℕ} (free j) (k * slice_index (unit columns j) j) 0 ≡ cond {A = ℕ} (free j) k 0 = ap (λ n. cond {A = ℕ} (free j) n 0) f in omega (arith, g, single_apart free k j js a)

  cond_sum : (b : Bool) (m n : ℕ) → cond b (m + n) 0 ≡ cond b m 0 + cond b n 0
  cond_sum true m n = refl
  cond_sum false m n = omega arith

  -- the parts of a row at the unit vectors of the free columns, by one weight of its terms
  free_sum : (ℤ → ℕ) → (ℕ → Bool) → Row → List ℕ → ℕ
  free_sum weigh free row [] = 0
  free_sum weigh free row (j ∷ js) = cond (free j) (term_sum weigh row (unit columns j)) 0 + free_sum weigh free row js

  free_sum_nil : (weigh : ℤ → ℕ) (free : ℕ → Bool) (js : List ℕ) → free_sum weigh free [] js ≡ 0
  unfolding free_sum
  free_sum_nil weigh free [] = refl
  free_sum_nil weigh free (j ∷ js) = omega (arith, cond_zero (free j) 0 refl, free_sum_nil weigh free js)

  free_sum_cons : (weigh : ℤ → ℕ) (free : ℕ → Bool) (term : ℕ × ℤ) (row : Row) (js : List ℕ) → free_sum weigh free (term ∷ row) js ≡ single free (weigh term.1) term.0 js + free_sum weigh free row js
  unfolding free_sum single
  free_sum_cons weigh free term row [] = refl
  free_sum_cons weigh free term row (j ∷ js) =
      let e : term_sum weigh (term ∷ row) (unit columns j) ≡ weigh term.1 * slice_index (unit columns j) term.0 + term_sum weigh row (unit columns j) =
      sum_by-cons (λ (t : ℕ × ℤ). weigh t.1 * slice_index (unit columns j) t.0) term row in
      let g : cond {A = ℕ} (free j) (term_sum weigh (term ∷ row) (unit columns j)) 0 ≡ cond {A = ℕ} (free j) (weigh term.1 * slice_index (unit columns j) term.0 + term_sum weigh row (unit columns j)) 0 =
      ap (λ n. cond {A = ℕ} (free j) n 0) e in
      omega (arith, g, cond_sum (free j) (weigh term.1 * slice_index (unit columns j) term.0) (term_sum weigh row (unit columns j)), free_sum_cons weigh free term row js)

  free_sum_most : (weigh : ℤ → ℕ) (free : ℕ → Bool) (row : Row) (js : List ℕ) → Distinct js → Below columns js → free_sum weigh free row js ≤ sum_by (λ t. cond (free t.0) (weigh t.1) 0) row
  free_sum_most weigh free [] js d b = omega (arith, free_sum_nil weigh free js)
  free_sum_most weigh free (term ∷ row) js d b = omega (
    arith,
    free_sum_cons weigh free term row js,
    single_is free (weigh term.1) term.0 js d b,
    free_sum_most weigh free row js d b,
    sum_by-cons (λ (t : ℕ × ℤ). cond (free t.0) (weigh t.1) 0) term row,
  )

  total_plus : (free : ℕ → Bool) (row : Row) (js : List ℕ) → total (free_plus row) (columns_of columns free js) ≡ free_sum positive_coefficient free row js
  unfolding total free_sum column_of
  total_plus free row [] = refl
  total_plus free row (j ∷ js) = ap (λ n. cond {A = ℕ} (free j) (plus_part row (unit columns j)) 0 + n) (total_plus free row js)

  total_minus : (free : ℕ → Bool) (row : Row) (js : List ℕ) → total (free_minus row) (columns_of columns free js) ≡ free_sum negative_coefficient free row js
  unfolding total free_sum column_of
  total_minus free row [] = refl
  total_minus free row (j ∷ js) = ap (λ n. cond {A = ℕ} (free j) (minus_part row (unit columns j)) 0 + n) (total_minus free row js)

  pub graph_like : (free : ℕ → Bool) (rows : List Row) → All (λ row. plus_in free row ≤ 1) rows → All (λ row. minus_in free row ≤ 1) rows →
      (js : List ℕ) → Distinct js → Below columns js → (ys : List Column) → Sub ys (columns_of columns free js) → GraphLike ys rows
  unfolding GraphLike
  graph_like free [] p m js d b ys s = tt
  graph_like free (row ∷ rows) p m js d b ys s = (
    (let h : plus_in free row ≤ 1 = All-head (λ r. plus_in free r ≤ 1) row rows p in omega (arith, h, total-sub (free_plus row) s, total_plus free row js, free_sum_most positive_coefficient free row js d b)),
    (let h : minus_in free row ≤ 1 = All-head (λ r. minus_in free r ≤ 1) row rows m in omega (arith, h, total-sub (free_minus row) s, total_minus free row js, free_sum_most negative_coefficient free row js d b)),
    graph_like free rows (All-tail (λ r. plus_in free r ≤ 1) row rows p) (All-tail (λ r. minus_in free r ≤ 1) row rows m) js d b ys s,
  )

  -- ---- the product of weights

  module _ (free : ℕ → Bool) (group cap : ℕ → ℕ) (taken : List Row) (some : (j : ℕ) → j < columns → free j ≡ false → 1 ≤ cap (group j))
      (light : (j : ℕ) → j < columns → free j ≡ false → weight (column_of columns free j) taken ≤ cap (group j)) where
    factor_most : (j : ℕ) → j < columns → factor taken (column_of columns free j) ≤ cond (free j) 1 (cap (group j))
    unfolding column_of
    factor_most j l = elim (cases_Bool (free j)) [
      | inl t ↦ let e : factor taken (column_of columns free j) ≡ 1 = ap (λ b. cond b 1 (weight (column_of columns free j) taken)) t in
          let g : cond {A = ℕ} (free j) 1 (cap (group j)) ≡ 1 = ap (λ b. cond {A = ℕ} b 1 (cap (group j))) t in omega (arith, e, g)
      | inr f ↦ let e : factor taken (column_of columns free j) ≡ weight (column_of columns free j) taken = ap (λ b. cond b 1 (weight (column_of columns free j) taken)) f in
          let g : cond {A = ℕ} (free j) 1 (cap (group j)) ≡ cap (group j) = ap (λ b. cond {A = ℕ} b 1 (cap (group j))) f in omega (arith, e, g, light j l f)
    ]

    some_factor : (j : ℕ) → j < columns → 1 ≤ cond (free j) 1 (cap (group j))
    some_factor j l = elim (cases_Bool (free j)) [
      | inl t ↦ let g : cond {A = ℕ} (free j) 1 (cap (group j)) ≡ 1 = ap (λ b. cond {A = ℕ} b 1 (cap (group j))) t in omega (arith, g)
      | inr f ↦ let g : cond {A = ℕ} (free j) 1 (cap (group j)) ≡ cap (group j) = ap (λ b. cond {A = ℕ} b 1 (cap (group j))) f in omega (arith, g, some j l f)
    ]

    pub product_most : (js : List ℕ) → Below columns js → (ys : List Column) → Sub ys (columns_of columns free js) → product taken ys ≤ bound_product free group cap js
    unfolding product bound_product
    product_most [] b [] s = omega arith
    product_most [] b (y ∷ ys) s = elim s [ ]
    product_most (j ∷ js) b ys (skip s) = let l : 1 * product taken ys ≤ cond {A = ℕ} (free j) 1 (cap (group j)) * bound_product free group cap js = mul-le-mul (some_factor j b.0) (product_most js b.1 ys s) in omega (arith, l)
    product_most (j ∷ js) b (y ∷ ys) (keep s) = mul-le-mul (factor_most j b.0) (product_most js b.1 ys s)
