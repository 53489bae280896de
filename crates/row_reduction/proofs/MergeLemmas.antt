-- One more column of the merge of two rows.
use Rattle.std.proofs.Common.{◌≡◌, ℕ, ◌+◌, ◌*◌, ◌-◌, ◌<◌, ◌≤◌, inl, inr, ℤ, pos, ◌+ℤ◌, ◌*ℤ◌, List, [], ◌∷◌, ◌++◌, take, length, sym, ap, ◌∙◌, arith, subst}
use Rattle.std.specs.Prelude.{slice_index, unsigned_abs, SomeIff, IfSome, Option, Some, None}
use Rattle.std.specs.List.{All, AllPairs}
use Rattle.std.proofs.lemmas.List.{take_more, take_all}
use Rattle.std.proofs.lemmas.List.Elements.{All-nil, All-push, All-weaker}
use Rattle.std.proofs.lemmas.List.Quantifiers.{all_pairs_push}
use Rattle.cone_definitions.specs.Rows.{Row, positive_coefficient, negative_coefficient, plus_part, minus_part}
use Rattle.cone_arithmetic.specs.Sparse.{IsSparse}
use Rattle.cone_row_laws.specs.Operations.{IsSumWith}
use Rattle.cone_row_laws.proofs.Sums.{plus-append, minus-append}
use Rattle.row_reduction.specs.Merging.{next_column, term_at, IsTermAt, IsLeastColumn, IsTaken, IsCoefficientSum, IsAppended, AppendsSum, IsMergedTo}
use Rattle.row_reduction.proofs.PlaceLemmas.{next_past, taken_before, taken_within, taken_moves}

-- ---- a number and a product

pub coefficient_sum : (number factor other : ℤ) → IsCoefficientSum number factor other ((factor *ℤ other) +ℤ number)
coefficient_sum number factor other = grind arith

pub checked_sum : (P : Type 0) (number factor other product : ℤ) (sum : Option ℤ) → product ≡ factor *ℤ other → SomeIff sum P (product +ℤ number) →
    IfSome sum (IsCoefficientSum number factor other)
checked_sum P number factor other product None e h = tt
checked_sum P number factor other product (Some s) e h =
    subst (IsCoefficientSum number factor other) (sym (h.1 ∙ ap (λ z. z +ℤ number) e)) (coefficient_sum number factor other)

-- ---- positive and negative parts

pub plus-one : (column : ℕ) (coefficient : ℤ) (x : List ℕ) → plus_part ((column, coefficient) ∷ []) x ≡ positive_coefficient coefficient * slice_index x column
plus-one column coefficient x = omega arith

pub minus-one : (column : ℕ) (coefficient : ℤ) (x : List ℕ) → minus_part ((column, coefficient) ∷ []) x ≡ negative_coefficient coefficient * slice_index x column
minus-one column coefficient x = omega arith

pub plus-push : (row : Row) (column : ℕ) (coefficient : ℤ) (x : List ℕ) →
    plus_part (row ++ (column, coefficient) ∷ []) x ≡ plus_part row x + positive_coefficient coefficient * slice_index x column
plus-push row column coefficient x = plus-append row ((column, coefficient) ∷ []) x ∙ ap (λ n. plus_part row x + n) (plus-one column coefficient x)

pub minus-push : (row : Row) (column : ℕ) (coefficient : ℤ) (x : List ℕ) →
    minus_part (row ++ (column, coefficient) ∷ []) x ≡ minus_part row x + negative_coefficient coefficient * slice_index x column
minus-push row column coefficient x = minus-append row ((column, coefficient) ∷ []) x ∙ ap (λ n. minus_part row x + n) (minus-one column coefficient x)

-- the row up to the next index
taken_row : (row : Row) (place column : ℕ) (coefficient : ℤ) (next : ℕ) → IsTermAt row place column coefficient next →
    take next row ≡ take place row ++ (column, coefficient) ∷ []
taken_row row place column coefficient next t =
    ap (λ n. take n row) t.after ∙ take_more row place (0, pos 0) t.in_range ∙
    ap (λ n. take place row ++ (n, (term_at row place).1) ∷ []) t.is_column ∙ ap (λ z. take place row ++ (column, z) ∷ []) (sym t.is_coefficient)

pub plus-taken : (row : Row) (place column : ℕ) (coefficient : ℤ) (next : ℕ) (x : List ℕ) → IsTaken row place column coefficient next →
    plus_part (take next row) x ≡ plus_part (take place row) x + positive_coefficient coefficient * slice_index x column
plus-taken row place column coefficient next x (inl t) =
    ap (λ r. plus_part r x) (taken_row row place column coefficient next t) ∙ plus-push (take place row) column coefficient x
plus-taken row place column coefficient next x (inr t) = rw (t.none, t.stays) (omega arith)

pub minus-taken : (row : Row) (place column : ℕ) (coefficient : ℤ) (next : ℕ) (x : List ℕ) → IsTaken row place column coefficient next →
    minus_part (take next row) x ≡ minus_part (take place row) x + negative_coefficient coefficient * slice_index x column
minus-taken row place column coefficient next x (inl t) =
    ap (λ r. minus_part r x) (taken_row row place column coefficient next t) ∙ minus-push (take place row) column coefficient x
minus-taken row place column coefficient next x (inr t) = rw (t.none, t.stays) (omega arith)

plus-appended : (old : Row) (column : ℕ) (sum : ℤ) (new : Row) (x : List ℕ) → IsAppended old column sum new →
    plus_part new x ≡ plus_part old x + positive_coefficient sum * slice_index x column
plus-appended old column sum new x (inl a) = rw (a.0, a.1) (omega arith)
plus-appended old column sum new x (inr a) = ap (λ r. plus_part r x) a.0 ∙ plus-push old column sum x

minus-appended : (old : Row) (column : ℕ) (sum : ℤ) (new : Row) (x : List ℕ) → IsAppended old column sum new →
    minus_part new x ≡ minus_part old x + negative_coefficient sum * slice_index x column
minus-appended old column sum new x (inl a) = rw (a.0, a.1) (omega arith)
minus-appended old column sum new x (inr a) = ap (λ r. minus_part r x) a.0 ∙ minus-push old column sum x

-- one more column, for numbers
sum_step : (pt nt pa na pb nb pc nc pz nz pu nu pv nv e : ℕ) → pt + (na + (pc * nb + nc * pb)) ≡ nt + (pa + (pc * pb + nc * nb)) →
    pz + (nu + (pc * nv + nc * pv)) ≡ nz + (pu + (pc * pv + nc * nv)) →
    (pt + pz * e) + ((na + nu * e) + (pc * (nb + nv * e) + nc * (pb + pv * e))) ≡ (nt + nz * e) + ((pa + pu * e) + (pc * (pb + pv * e) + nc * (nb + nv * e)))
sum_step pt nt pa na pb nb pc nc pz nz pu nu pv nv e h k = omega (arith, h, ap (λ n. e * n) k)

module _ (columns : ℕ) (row : Row) (factor : ℤ) (other : Row) (i j : ℕ) (terms : Row) (before : IsMergedTo columns row factor other i j terms)
    (column : ℕ) (one two : ℤ) (after_i after_j : ℕ) (taken : IsTaken row i column one after_i) (taken_other : IsTaken other j column two after_j)
    (new : Row) (added : AppendsSum terms column one factor two new) where
  pub sum_more : IsSumWith (take after_i row) factor (take after_j other) new
  sum_more x = rw (
    plus-appended terms column added.sum new x added.appended,
    minus-appended terms column added.sum new x added.appended,
    plus-taken row i column one after_i x taken,
    minus-taken row i column one after_i x taken,
    plus-taken other j column two after_j x taken_other,
    minus-taken other j column two after_j x taken_other,
  )
      (sum_step (plus_part terms x) (minus_part terms x) (plus_part (take i row) x) (minus_part (take i row) x) (plus_part (take j other) x) (minus_part (take j other) x)
      (positive_coefficient factor) (negative_coefficient factor) (positive_coefficient added.sum) (negative_coefficient added.sum)
      (positive_coefficient one) (negative_coefficient one) (positive_coefficient two) (negative_coefficient two) (slice_index x column) (before.sum x) added.is_sum)

  module _ (least : IsLeastColumn columns row i other j column) where
    all_before : All (λ term. term.0 < column) terms
    all_before = elim least.is [
      | inl e ↦ subst (λ n. All (λ term. term.0 < n) terms) (sym e) before.before_row
      | inr e ↦ subst (λ n. All (λ term. term.0 < n) terms) (sym e) before.before_other
    ]

    all_within : (most : ℕ) → column < most → IsAppended terms column added.sum new → All (λ term. term.0 < most) new
    all_within most h (inl a) = rw a.1 (All-weaker (λ term. term.0 < column) (λ term. term.0 < most) (λ term l. omega (arith, l, h)) terms all_before)
    all_within most h (inr a) = rw a.0 (All-push (λ term. term.0 < most) terms (column, added.sum)
        (All-weaker (λ term. term.0 < column) (λ term. term.0 < most) (λ term l. omega (arith, l, h)) terms all_before) h)

    sparse_more : IsAppended terms column added.sum new → IsSparse new
    sparse_more (inl a) = rw a.1 before.is_sparse
    sparse_more (inr a) = rw a.0 (record {
      ascending = all_pairs_push (λ one other. one.0 < other.0) terms (column, added.sum) before.is_sparse.ascending all_before;
      nonzero = All-push (λ term. 1 ≤ unsigned_abs term.1) terms (column, added.sum) before.is_sparse.nonzero a.1;
      bounded = All-push (λ term. unsigned_abs term.1 ≤ 1000000) terms (column, added.sum) before.is_sparse.bounded a.2;
    })

    pub merged_more : IsSparse row → IsSparse other → IsMergedTo columns row factor other after_i after_j new
    merged_more sparse other_sparse = record {
      sum = sum_more;
      is_sparse = sparse_more added.appended;
      before_row = all_within (next_column columns row after_i) (taken_before columns row i column one after_i sparse taken least.low least.in_range) added.appended;
      before_other = all_within (next_column columns other after_j) (taken_before columns other j column two after_j other_sparse taken_other least.low_other least.in_range) added.appended;
    }

    pub merge_moves : i ≤ length row → j ≤ length other → (length row - after_i) + (length other - after_j) < (length row - i) + (length other - j)
    merge_moves h k =
        let a = taken_within row i column one after_i h taken in let b = taken_within other j column two after_j k taken_other in elim least.is [
          | inl e ↦ let m = taken_moves columns row i column one after_i taken e least.in_range in omega (arith, a.0, a.1, b.0, b.1, m.0, m.1)
          | inr e ↦ let m = taken_moves columns other j column two after_j taken_other e least.in_range in omega (arith, a.0, a.1, b.0, b.1, m.0, m.1)
        ]

-- ---- the first step and the last

pub merged_none : (columns : ℕ) (row : Row) (factor : ℤ) (other terms : Row) → terms ≡ [] → IsMergedTo columns row factor other 0 0 terms
merged_none columns row factor other terms none = subst (IsMergedTo columns row factor other 0 0) (sym none) (record {
  sum = λ x. omega arith;
  is_sparse = record { ascending = all_pairs_none; nonzero = All-nil (λ term. 1 ≤ unsigned_abs term.1); bounded = All-nil (λ term. unsigned_abs term.1 ≤ 1000000) };
  before_row = All-nil (λ term. term.0 < next_column columns row 0);
  before_other = All-nil (λ term. term.0 < next_column columns other 0);
})
  where
    all_pairs_none : AllPairs (λ (one other : ℕ × ℤ). one.0 < other.0) []
    all_pairs_none = grind arith

pub sum_of_all : (columns : ℕ) (row : Row) (factor : ℤ) (other : Row) (i j : ℕ) (terms : Row) → IsMergedTo columns row factor other i j terms → length row ≤ i → length other ≤ j →
    IsSumWith row factor other terms
sum_of_all columns row factor other i j terms merged exceeded past_other =
    subst (λ r. IsSumWith r factor other terms) (take_all i row exceeded) (subst (λ r. IsSumWith (take i row) factor r terms) (take_all j other past_other) merged.sum)

pub all_in_range : (columns : ℕ) (row : Row) (factor : ℤ) (other : Row) (i j : ℕ) (terms : Row) → IsMergedTo columns row factor other i j terms → length row ≤ i →
    All (λ term. term.0 < columns) terms
all_in_range columns row factor other i j terms merged exceeded = subst (λ n. All (λ term. term.0 < n) terms) (next_past columns row i exceeded) merged.before_row
