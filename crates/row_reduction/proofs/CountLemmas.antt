-- The terms of a row that are shared with another row, and those that are cancelled by it, counted.
use Rattle.std.proofs.Common.{◌≡◌, ℕ, ◌+◌, ◌<◌, ◌≤◌, inl, inr, ℤ, pos, Bool, true, List, length, take, get_or, sym, arith, ◌==◌}
use Rattle.std.specs.Prelude.{◌⊎◌, ◌&&◌, count_by}
use Rattle.std.proofs.lemmas.Bool.{cases_Bool, and_from, eq-eqb}
use Rattle.std.proofs.lemmas.List.Folds.{list_any_at}
use Rattle.std.proofs.lemmas.List.Sums.{count_by_more_yes, count_by_more_no}
use Rattle.cone_definitions.specs.Rows.{Row}
use Rattle.row_reduction.specs.Merging.{term_at, IsCoefficientSum}
use Rattle.row_reduction.specs.Eliminating.{is_zero_sum, is_shared, is_cancelled}

-- ---- one more item of the list

pub count_kept : {X : Type 0} (p : X → Bool) (xs : List X) (i : ℕ) (d : X) (n : ℕ) → i < length xs → n ≤ count_by p (take i xs) → n ≤ count_by p (take (i + 1) xs)
count_kept p xs i d n within limited = elim (cases_Bool (p (get_or xs i d))) [
  | inl found ↦ omega (arith, limited, count_by_more_yes p xs i d within found)
  | inr missed ↦ omega (arith, limited, count_by_more_no p xs i d within missed)
]

pub count_more : {X : Type 0} (p : X → Bool) (xs : List X) (i : ℕ) (d : X) (n m : ℕ) → i < length xs → p (get_or xs i d) ≡ true → n ≤ count_by p (take i xs) → m ≤ n + 1 → m ≤ count_by p (take (i + 1) xs)
count_more p xs i d n m within found limited next = omega (arith, limited, next, count_by_more_yes p xs i d within found)

-- ---- a term at which both rows have one

module _ (row other : Row) (i j : ℕ) (within : i < length row) (other_within : j < length other) (same : (term_at other j).0 ≡ (term_at row i).0) where
  shared_there : is_shared other (term_at row i) ≡ true
  shared_there = list_any_at (λ (at : ℕ × ℤ). (term_at row i).0 == at.0) other j (0, pos 0) other_within (eq-eqb (term_at row i).0 (term_at other j).0 (sym same))

  pub shared_more : (any next : ℕ) → any ≤ count_by (is_shared other) (take i row) → next ≤ any + 1 → next ≤ count_by (is_shared other) (take (i + 1) row)
  shared_more any next limited l = count_more (is_shared other) row i (0, pos 0) any next within shared_there limited l

  cancelled_there : (factor : ℤ) → IsCoefficientSum (term_at row i).1 factor (term_at other j).1 (pos 0) → is_cancelled factor other (term_at row i) ≡ true
  cancelled_there factor sum = list_any_at (λ (at : ℕ × ℤ). ((term_at row i).0 == at.0) && is_zero_sum (term_at row i).1 factor at.1) other j (0, pos 0) other_within
      (and_from ((term_at row i).0 == (term_at other j).0) (is_zero_sum (term_at row i).1 factor (term_at other j).1) (eq-eqb (term_at row i).0 (term_at other j).0 (sym same)) (eq-eqb _ _ (omega (arith, sum))))

  pub cancelled_more : (factor : ℤ) (some next : ℕ) → some ≤ count_by (is_cancelled factor other) (take i row)
      → (next ≤ some) ⊎ ((next ≤ some + 1) × IsCoefficientSum (term_at row i).1 factor (term_at other j).1 (pos 0)) → next ≤ count_by (is_cancelled factor other) (take (i + 1) row)
  cancelled_more factor some next limited (inl l) = count_kept (is_cancelled factor other) row i (0, pos 0) next within (omega (arith, limited, l))
  cancelled_more factor some next limited (inr h) = count_more (is_cancelled factor other) row i (0, pos 0) some next within (cancelled_there factor h.1) limited h.0
