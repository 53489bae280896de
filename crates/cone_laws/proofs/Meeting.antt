-- Inside a union, the rows that do not meet it are 0.
use Rattle.std.proofs.Common.{◌≡◌, ℕ, ◌+◌, ◌*◌, ◌≤◌, inl, inr, Bool, false, cond, List, [], ◌∷◌, slice_index, All, ℤ, subst, ◌∙◌, sym, arith}
use Rattle.std.specs.List.{filter, sum_by}
use Rattle.std.proofs.lemmas.Bool.{cases_Bool, or_parts, ltb-false}
use Rattle.std.proofs.lemmas.List.Elements.{All-cons, All-head, All-tail, All-filter}
use Rattle.std.proofs.lemmas.List.Sums.{length-filter, sum_by-cons}
use Rattle.cone_definitions.specs.Vectors.{IsInsideUnion}
use Rattle.cone_definitions.specs.Rows.{Row, positive_coefficient, negative_coefficient, IsZeroAt, IsSolution, IsPrimitiveExtreme}
use Rattle.cone_definitions.specs.Elimination.{Step, IsPair}
use Rattle.cone_definitions.proofs.Unions.{ray_primitive}
use Rattle.cone_laws.specs.Unions.{is_in_union, union_size}
use Rattle.cone_laws.specs.Laws.{HasNoThird}
use Rattle.cone_laws.specs.Meeting.{AreEnough, meets_union, meeting_count}
use Rattle.cone_laws.proofs.Bound.{enough_bound}
use Rattle.cone_laws.proofs.Pairs.{pair_no_third}

out_of_union : (u w : List ℕ) (j : ℕ) → is_in_union u w j ≡ false → (slice_index u j ≡ 0) × (slice_index w j ≡ 0)
out_of_union u w j h = let p = or_parts _ _ h in let a : slice_index u j ≤ 0 = ltb-false 0 (slice_index u j) p.0 in let b : slice_index w j ≤ 0 = ltb-false 0 (slice_index w j) p.1 in
    (omega arith, omega arith)

-- a weighted sum over a row that does not meet the union is 0 at a vector inside the union
weight_zero : (weight : ℕ × ℤ → ℕ) (u w x : List ℕ) → IsInsideUnion x u w → (row : Row) → meets_union u w row ≡ false → sum_by (λ term. weight term * slice_index x term.0) row ≡ 0
weight_zero weight u w x inside [] h = omega arith
weight_zero weight u w x inside (term ∷ row) h = let p = or_parts _ _ h in let o = out_of_union u w term.0 p.0 in
    let z : slice_index x term.0 ≡ 0 = inside term.0 o.0 o.1 in let t : weight term * slice_index x term.0 ≡ 0 = rw z (omega arith) in
    omega (arith, t, sum_by-cons (λ term. weight term * slice_index x term.0) term row, weight_zero weight u w x inside row p.1)

unmet_zero : (u w x : List ℕ) → IsInsideUnion x u w → (row : Row) → meets_union u w row ≡ false → IsZeroAt row x
unmet_zero u w x inside row h = weight_zero (λ term. positive_coefficient term.1) u w x inside row h ∙ sym (weight_zero (λ term. negative_coefficient term.1) u w x inside row h)

-- what holds of the rows that pass and of those that do not
All-from_filter : (p : Row → Bool) (P : Row → Type 0) → ((row : Row) → p row ≡ false → P row) → (rows : List Row) → All P (filter p rows) → All P rows
All-from_filter p P other [] h = λ k d l. absurd (omega arith)
All-from_filter p P other (row ∷ rows) h = elim (cases_Bool (p row)) [
  | inl e ↦ let g : All P (row ∷ filter p rows) = subst (λ b. All P (cond b (row ∷ filter p rows) (filter p rows))) e h in
      All-cons P row rows (All-head P row (filter p rows) g) (All-from_filter p P other rows (All-tail P row (filter p rows) g))
  | inr e ↦ let g : All P (filter p rows) = subst (λ b. All P (cond b (row ∷ filter p rows) (filter p rows))) e h in
      All-cons P row rows (other row e) (All-from_filter p P other rows g)
]

filter_solution : (columns : ℕ) (rows : List Row) (p : Row → Bool) (x : List ℕ) → IsSolution columns rows x → IsSolution columns (filter p rows) x
filter_solution columns rows p x sol = record { width = sol.width; zero = All-filter p (λ row. IsZeroAt row x) rows sol.zero }

module _ (columns : ℕ) (rows : List Row) (u w : List ℕ) (hu : IsPrimitiveExtreme columns rows u) (hw : IsPrimitiveExtreme columns rows w) where
  meeting_enough : AreEnough columns rows (filter (meets_union u w) rows) u w
  meeting_enough = record {
    u_solution = filter_solution columns rows (meets_union u w) u hu.extreme.solution;
    w_solution = filter_solution columns rows (meets_union u w) w hw.extreme.solution;
    inside_union = λ x sol inside. record { width = sol.width; zero = All-from_filter (meets_union u w) (λ row. IsZeroAt row x) (λ row out. unmet_zero u w x inside row out) rows sol.zero };
  }

  pub meeting_bound : HasNoThird columns rows u w → union_size columns u w ≤ meeting_count rows u w + 2
  meeting_bound no_third = omega (arith, enough_bound columns rows (filter (meets_union u w) rows) u w hu hw no_third meeting_enough, length-filter (meets_union u w) rows)

pub meeting_pair_bound : (step : Step) (u w : List ℕ) → IsPair step u w → union_size step.columns u w ≤ meeting_count step.before u w + 2
meeting_pair_bound step u w p = meeting_bound step.columns step.before u w (ray_primitive step u p.u_ray) (ray_primitive step w p.w_ray) (pair_no_third step u w p)
