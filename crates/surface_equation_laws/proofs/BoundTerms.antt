-- The terms of a row, weighed by their columns, add up to at most what its entries do.
use Rattle.std.proofs.Common.{◌≡◌, ℕ, ◌+◌, ◌<◌, ◌≤◌, Bool, true, false, cond, ℤ, List, [], ◌∷◌, filter, Option, Some, None, refl, sym, ap, ◌∙◌, subst, arith}
use Rattle.std.specs.Prelude.{◌==◌, if◌then◌else◌, sum_by}
use Rattle.std.proofs.lemmas.Bool.{eq-eqb, ne_eqb}
use Rattle.std.proofs.lemmas.List.Sums.{sum_by-cons}
use Rattle.table_definitions.specs.Lists.{below, times_in}
use Rattle.table_definitions.proofs.Listed.{below-among}
use Rattle.cone_definitions.specs.Rows.{Row as EquationRow, positive_coefficient, negative_coefficient}
use Rattle.surface_definitions.specs.Equations.{Equation, coefficient, term_of, row_of}
use Rattle.surface_laws.proofs.Counting.{one_term}
use Rattle.surface_laws.proofs.Sums.{sum_by_plus}
use Rattle.surface_equation_laws.specs.Entries.{entry, plus_over, minus_over}
use Rattle.surface_equation_laws.proofs.Entries.{entry_row}
use Rattle.surface_equation_laws.proofs.Chosen.{sum_by_less}
use Rattle.surface_equation_laws.proofs.FaceSums.{over, sum_by-filter_map}
use Rattle.cone_bound_laws.specs.Caps.{plus_in, minus_in, row_weight, row_size, magnitude}

module _ (F : ℕ → ℤ → ℕ) (n : ℕ) (e : Equation) where
  abbrev weighed : ℕ × ℤ → ℕ
  weighed t = F t.0 t.1

  term_less : (c : ℕ) → over weighed (term_of e c) ≤ F c (coefficient e c)
  term_less c = go (times_in e.left c == times_in e.right c)
    where
      go : (b : Bool) → over weighed (let p : Option (ℕ × ℤ) = if b then None else Some (c, coefficient e c) in p) ≤ F c (coefficient e c)
      go true = omega arith
      go false = omega arith

  pub weighed_less : sum_by weighed (row_of n e) ≤ sum_by (λ c. F c (entry (row_of n e) c)) (below n)
  weighed_less =
      let a : sum_by weighed (row_of n e) ≡ sum_by (λ c. over weighed (term_of e c)) (below n) = sum_by-filter_map {B = ℕ × ℤ} weighed (term_of e) (below n) in
      let b : sum_by (λ c. over weighed (term_of e c)) (below n) ≤ sum_by (λ c. F c (entry (row_of n e) c)) (below n) =
      sum_by_less (λ c. over weighed (term_of e c)) (λ c. F c (entry (row_of n e) c)) (below n)
      (λ c m. subst (λ k. over weighed (term_of e c) ≤ k) (ap (F c) (sym (entry_row n e c (below-among c n m)))) (term_less c)) in
      subst (λ k. k ≤ sum_by (λ c. F c (entry (row_of n e) c)) (below n)) (sym a) b

-- a sum over the items that pass a test
pub over_passing : (p : ℕ → Bool) (f : ℕ → ℕ) (xs : List ℕ) → sum_by (λ c. cond (p c) (f c) 0) xs ≡ sum_by f (filter p xs)
over_passing p f [] = refl
over_passing p f (x ∷ xs) = sum_by-cons (λ c. cond (p c) (f c) 0) x xs ∙ ap (λ k. cond (p x) (f x) 0 + k) (over_passing p f xs) ∙ go (p x)
  where
    go : (b : Bool) → cond b (f x) 0 + sum_by f (filter p xs) ≡ sum_by f (cond b (x ∷ filter p xs) (filter p xs))
    go true = sym (sum_by-cons f x (filter p xs))
    go false = omega arith

-- in chosen columns
pub plus_in_less : (p : ℕ → Bool) (n : ℕ) (e : Equation) → plus_in p (row_of n e) ≤ plus_over (row_of n e) (filter p (below n))
plus_in_less p n e =
    let l = weighed_less (λ c z. cond (p c) (positive_coefficient z) 0) n e in
    let s = over_passing p (λ c. positive_coefficient (entry (row_of n e) c)) (below n) in
    omega arith

pub minus_in_less : (p : ℕ → Bool) (n : ℕ) (e : Equation) → minus_in p (row_of n e) ≤ minus_over (row_of n e) (filter p (below n))
minus_in_less p n e =
    let l = weighed_less (λ c z. cond (p c) (negative_coefficient z) 0) n e in
    let s = over_passing p (λ c. negative_coefficient (entry (row_of n e) c)) (below n) in
    omega arith

-- in one column
pub weight_less : (j n : ℕ) (e : Equation) → j < n → row_weight j (row_of n e) ≤ magnitude (entry (row_of n e) j)
weight_less j n e l =
    let g : ℕ → ℕ = λ c. cond (c == j) (magnitude (entry (row_of n e) c)) 0 in
    let a : row_weight j (row_of n e) ≤ sum_by g (below n) = weighed_less (λ c z. cond (c == j) (magnitude z) 0) n e in
    let b : sum_by g (below n) ≡ g j = one_term g j n (λ k off. ap (λ t. cond t (magnitude (entry (row_of n e) k)) 0) (ne_eqb k j off)) l in
    let d : g j ≡ magnitude (entry (row_of n e) j) = ap (λ t. cond t (magnitude (entry (row_of n e) j)) 0) (eq-eqb j j refl) in
    omega arith

-- all magnitudes are both signs
pub size_is : (row : EquationRow) → row_size row ≡ sum_by (λ (t : ℕ × ℤ). positive_coefficient t.1) row + sum_by (λ (t : ℕ × ℤ). negative_coefficient t.1) row
size_is row = sum_by_plus (λ (t : ℕ × ℤ). positive_coefficient t.1) (λ (t : ℕ × ℤ). negative_coefficient t.1) (λ (t : ℕ × ℤ). magnitude t.1) (λ t. refl) row
