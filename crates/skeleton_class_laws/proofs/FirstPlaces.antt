-- The first number below a bound that has a property, and the first index of a number in a list.
use Rattle.std.proofs.Common.{◌≡◌, ℕ, zero, suc, ◌<◌, ◌⊎◌, inl, inr, true, List, length, slice_index, subst, sym, ap, ◌∙◌, arith}
use Rattle.std.specs.Prelude.{◌==◌}
use Rattle.std.specs.List.{position_or_len}
use Rattle.std.proofs.lemmas.Bool.{cases_eq, eq-eqb, ne_eqb}
use Rattle.std.proofs.lemmas.List.{get_or_default}
use Rattle.std.proofs.lemmas.List.Sums.{position_or_len_is}
use Rattle.basic_lemmas.proofs.Numbers.{below_suc}
use Rattle.table_definitions.specs.Lists.{has}
use Rattle.table_definitions.proofs.Bijections.{there}

-- no number below k has the property, or there is a first one that has it
pub none_or_first : (Q : ℕ → Type 0) → ((j : ℕ) → Q j ⊎ (Q j → ⊥)) → (k : ℕ) → ((j : ℕ) → j < k → Q j → ⊥) ⊎ ((j : ℕ) × (j < k) × Q j × ((i : ℕ) → i < j → Q i → ⊥))
none_or_first Q decide zero = inl (λ j l q. absurd (omega arith))
none_or_first Q decide (suc k) = elim (none_or_first Q decide k) [
  | inr one ↦ let l : one.0 < suc k = omega (arith, one.1) in inr (one.0, l, one.2, one.3)
  | inl below ↦ elim (decide k) [
    | inl q ↦ let l : k < suc k = omega arith in inr (k, l, q, below)
    | inr never ↦ inl (below_suc (λ j. Q j → ⊥) k below never)
  ]
]

-- the first index of a number that occurs in the list
pub record FirstPlace (xs : List ℕ) (c : ℕ) : Type 0 where
  pub in_range : position_or_len (λ d. d == c) xs < length xs
  pub is : slice_index xs (position_or_len (λ d. d == c) xs) ≡ c

pub first_place : (xs : List ℕ) (i c : ℕ) → i < length xs → slice_index xs i ≡ c → FirstPlace xs c
first_place xs i c l e = elim (none_or_first (λ k. slice_index xs k ≡ c) (λ k. cases_eq (slice_index xs k) c) (suc i)) [
  | inl none ↦ absurd (none i (omega arith) e)
  | inr one ↦ let same : position_or_len (λ d. d == c) xs ≡ one.0 = position_or_len_is (λ d. d == c) xs one.0 0 (let m : one.0 < suc i = one.1 in omega arith)
      (λ k less. ne_eqb (slice_index xs k) c (one.3 k less)) (λ _. eq-eqb (slice_index xs one.0) c one.2) in
      record { in_range = subst (λ k. k < length xs) (sym same) (let m : one.0 < suc i = one.1 in omega arith); is = ap (slice_index xs) same ∙ one.2 }
]

pub has_place : (xs : List ℕ) (c : ℕ) → has xs c ≡ true → FirstPlace xs c
has_place xs c h = let t = there xs c h in first_place xs t.0 c t.1 (sym (t.2 ∙ get_or_default xs t.0 c 0 t.1))
