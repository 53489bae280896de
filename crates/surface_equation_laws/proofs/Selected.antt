-- The sum over different numbers is at most the sum over all.
use Rattle.std.proofs.Common.{◌≡◌, ℕ, ◌*◌, ◌≤◌, List, [], length, inl, inr, refl, sym, ap, ◌∙◌, arith}
use Rattle.std.specs.Prelude.{◌==◌, sum_by}
use Rattle.std.proofs.lemmas.Bool.{cases_lt, eq-eqb, ne_eqb}
use Rattle.std.proofs.lemmas.List.{get_or_past}
use Rattle.std.proofs.Math.Nat.{mul-le-mul_left}
use Rattle.table_definitions.specs.Lists.{below, times_in}
use Rattle.table_definitions.proofs.Listed.{below-among}
use Rattle.cone_definitions.specs.Rows.{Row as EquationRow}
use Rattle.surface_laws.proofs.Counting.{sum_swap, sum_by_same, sum_by-none, one_term, over_places}
use Rattle.cone_bound_laws.specs.Caps.{magnitude}
use Rattle.surface_equation_laws.specs.Entries.{entry, IsOnce, column_sum}
use Rattle.surface_equation_laws.specs.Selected.{entry_at}
use Rattle.surface_equation_laws.proofs.Chosen.{sum_by_less}
use Rattle.surface_equation_laws.proofs.Columns.{sum_by_times}
use Rattle.basic_lemmas.proofs.Truths.{one_if}

module _ (f : ℕ → ℕ) (n : ℕ) (nothing : (c : ℕ) → n ≤ c → f c ≡ 0) where
  apart_zero : (c k : ℕ) → (k ≡ c → ⊥) → f k * one_if (c == k) ≡ 0
  apart_zero c k off = ap (λ b. f k * one_if b) (ne_eqb c k (λ e. off (sym e))) ∙ omega arith

  -- a term as a sum over a range
  by_range : (c : ℕ) → f c ≡ sum_by (λ k. f k * one_if (c == k)) (below n)
  by_range c = elim (cases_lt c n) [
    | inl l ↦ sym (one_term (λ k. f k * one_if (c == k)) c n (λ k off. apart_zero c k off) l ∙ ap (λ b. f c * one_if b) (eq-eqb c c refl) ∙ omega arith)
    | inr out ↦ nothing c out ∙ sym (sum_by-none (λ k. f k * one_if (c == k)) (below n) (λ k a. apart_zero c k (λ e. (let l = below-among k n a in omega arith))))
  ]

  pub selected : (cs : List ℕ) → IsOnce cs → sum_by f cs ≤ sum_by f (below n)
  selected cs once =
      let e : sum_by f cs ≡ sum_by (λ k. f k * times_in cs k) (below n) =
      sum_by_same f (λ c. sum_by (λ k. f k * one_if (c == k)) (below n)) cs (λ c a. by_range c) ∙ sum_swap (λ c k. f k * one_if (c == k)) cs (below n)
      ∙ sum_by_same (λ k. sum_by (λ c. f k * one_if (c == k)) cs) (λ k. f k * times_in cs k) (below n) (λ k a. sum_by_times (f k) (λ c. one_if (c == k)) cs) in
      let l : sum_by (λ k. f k * times_in cs k) (below n) ≤ sum_by f (below n) =
      sum_by_less (λ k. f k * times_in cs k) f (below n) (λ k a. let m : f k * times_in cs k ≤ f k * 1 = mul-le-mul_left (f k) (once k) in omega arith) in
      omega arith

pub selected_rows : (rows : List EquationRow) (numbers : List ℕ) (c : ℕ) → IsOnce numbers → sum_by (λ r. magnitude (entry_at rows r c)) numbers ≤ column_sum rows c
unfolding entry
selected_rows rows numbers c once =
    let f : ℕ → ℕ = λ r. magnitude (entry_at rows r c) in
    let l : sum_by f numbers ≤ sum_by f (below (length rows)) = selected f (length rows) (λ r out. ap (λ (row : EquationRow). magnitude (entry row c)) (get_or_past rows r [] out)) numbers once in
    let e : sum_by f (below (length rows)) ≡ column_sum rows c = over_places (λ (row : EquationRow). magnitude (entry row c)) f [] rows (λ r low. refl) in
    omega arith
