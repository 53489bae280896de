-- The entries of the row of an equation.
use Rattle.std.proofs.Common.{◌≡◌, ℕ, zero, suc, ◌+◌, ◌<◌, ◌≤◌, Bool, true, false, ℤ, pos, negsuc, ◌-ℤ◌, ◌+ℤ◌, List, [], ◌∷◌, Some, None, inl, inr, refl, sym, ap, ◌∙◌, arith, filter_map}
use Rattle.std.specs.List.{cons_option, range_with_len}
use Rattle.std.specs.Prelude.{◌==◌, if◌then◌else◌}
use Rattle.std.proofs.lemmas.Int.{ints}
use Rattle.std.proofs.lemmas.Bool.{eqb-true, eq-eqb, ne_eqb, cases_lt, cases_eq}
use Rattle.table_definitions.specs.Lists.{below, times_in}
use Rattle.table_definitions.proofs.TableLaws.{Among}
use Rattle.table_definitions.proofs.Listed.{below-among, range-among}
use Rattle.surface_definitions.specs.Equations.{Equation, coefficient, term_of, row_of}
use Rattle.cone_definitions.specs.Rows.{Row as EquationRow, positive_coefficient, negative_coefficient}
use Rattle.cone_bound_laws.specs.Caps.{magnitude}
use Rattle.surface_equation_laws.specs.Entries.{entry}

abbrev part : Bool → ℤ → ℤ
part b z = if b then z else pos 0

no_part : (b : Bool) (z y : ℤ) → z ≡ pos 0 → y ≡ part b z +ℤ y
no_part true z y e = omega (arith, ints)
no_part false z y e = omega (arith, ints)

entry_if : (e : Equation) (a c : ℕ) (ts : EquationRow) (b : Bool) → (times_in e.left a == times_in e.right a) ≡ b
    → entry (cons_option (if b then None else Some (a, coefficient e a)) ts) c ≡ part (a == c) (coefficient e a) +ℤ entry ts c
unfolding entry
entry_if e a c ts true h =
    let same : times_in e.left a ≡ times_in e.right a = eqb-true (times_in e.left a) (times_in e.right a) h in
    let none : coefficient e a ≡ pos 0 = omega (arith, ints) in
    no_part (a == c) (coefficient e a) (entry ts c) none
entry_if e a c ts false h = refl

entry_step : (e : Equation) (a c : ℕ) (ts : EquationRow) → entry (cons_option (term_of e a) ts) c ≡ part (a == c) (coefficient e a) +ℤ entry ts c
entry_step e a c ts = entry_if e a c ts (times_in e.left a == times_in e.right a) refl

no_part_at : (a c : ℕ) (z : ℤ) → (a ≡ c → ⊥) → part (a == c) z ≡ pos 0
no_part_at a c z separate = ap (λ b. part b z) (ne_eqb a c separate)

zero_plus : (y z : ℤ) → z ≡ pos 0 → z +ℤ y ≡ y
zero_plus y z e = omega (arith, ints)

plus_zero : (y z : ℤ) → y ≡ pos 0 → z +ℤ y ≡ z
plus_zero y z e = omega (arith, ints)

-- columns that are not in the row have no entry
entry_absent : (e : Equation) (c : ℕ) (cs : List ℕ) → (Among c cs → ⊥) → entry (filter_map (term_of e) cs) c ≡ pos 0
unfolding entry
entry_absent e c [] none = refl
entry_absent e c (a ∷ cs) none =
    let separate : a ≡ c → ⊥ = λ s. none (inl (sym s)) in
    entry_step e a c (filter_map (term_of e) cs)
    ∙ zero_plus (entry (filter_map (term_of e) cs) c) (part (a == c) (coefficient e a)) (no_part_at a c (coefficient e a) separate)
    ∙ entry_absent e c cs (λ h. none (inr h))

entry_in : (e : Equation) (c a n : ℕ) → a ≤ c → c < a + n → entry (filter_map (term_of e) (range_with_len a n)) c ≡ coefficient e c
entry_in e c a zero low high = absurd (omega arith)
entry_in e c a (suc n) low high = elim (cases_eq a c) [
  | inl same ↦ (let rest : EquationRow = filter_map (term_of e) (range_with_len (a + 1) n) in
      let none : entry rest c ≡ pos 0 = entry_absent e c (range_with_len (a + 1) n) (λ h. let l : a + 1 ≤ c = (range-among c (a + 1) n h).0 in omega arith) in
      entry_step e a c rest ∙ plus_zero (entry rest c) (part (a == c) (coefficient e a)) none
      ∙ ap (λ b. part b (coefficient e a)) (eq-eqb a c same) ∙ ap (coefficient e) same)
  | inr separate ↦ (let rest : EquationRow = filter_map (term_of e) (range_with_len (a + 1) n) in
      entry_step e a c rest ∙ zero_plus (entry rest c) (part (a == c) (coefficient e a)) (no_part_at a c (coefficient e a) separate)
      ∙ entry_in e c (a + 1) n (omega arith) (omega arith))
]

-- the entry of an equation's row is its coefficient
pub entry_row : (n : ℕ) (e : Equation) (c : ℕ) → c < n → entry (row_of n e) c ≡ coefficient e c
entry_row n e c l = let high : c < 0 + n = omega arith in entry_in e c 0 n (omega arith) high

pub entry_outside : (n : ℕ) (e : Equation) (c : ℕ) → n ≤ c → entry (row_of n e) c ≡ pos 0
entry_outside n e c l = entry_absent e c (below n) (λ h. let m : c < n = below-among c n h in omega arith)

positive_le : (z : ℤ) (a b : ℕ) → z ≡ pos a -ℤ pos b → positive_coefficient z ≤ a
positive_le (pos k) a b e = omega (arith, ints)
positive_le (negsuc k) a b e = omega (arith, ints)

negative_le : (z : ℤ) (a b : ℕ) → z ≡ pos a -ℤ pos b → negative_coefficient z ≤ b
negative_le (pos k) a b e = omega (arith, ints)
negative_le (negsuc k) a b e = omega (arith, ints)

-- the positive part of an entry is at most how often the column occurs on the left, the negative part on the right
pub plus_entry : (n : ℕ) (e : Equation) (c : ℕ) → positive_coefficient (entry (row_of n e) c) ≤ times_in e.left c
plus_entry n e c = elim (cases_lt c n) [
  | inl l ↦ positive_le (entry (row_of n e) c) (times_in e.left c) (times_in e.right c) (entry_row n e c l)
  | inr out ↦ (let none : positive_coefficient (entry (row_of n e) c) ≡ 0 = ap positive_coefficient (entry_outside n e c out) in omega arith)
]

pub minus_entry : (n : ℕ) (e : Equation) (c : ℕ) → negative_coefficient (entry (row_of n e) c) ≤ times_in e.right c
minus_entry n e c = elim (cases_lt c n) [
  | inl l ↦ negative_le (entry (row_of n e) c) (times_in e.left c) (times_in e.right c) (entry_row n e c l)
  | inr out ↦ (let none : negative_coefficient (entry (row_of n e) c) ≡ 0 = ap negative_coefficient (entry_outside n e c out) in omega arith)
]

pub magnitude_entry : (n : ℕ) (e : Equation) (c : ℕ) → magnitude (entry (row_of n e) c) ≤ times_in e.left c + times_in e.right c
magnitude_entry n e c = let p = plus_entry n e c in let m = minus_entry n e c in omega arith

magnitude_within : (z : ℤ) (a b m : ℕ) → z ≡ pos a -ℤ pos b → a ≤ m → b ≤ m → magnitude z ≤ m
magnitude_within (pos k) a b m e la lb = omega (arith, ints)
magnitude_within (negsuc k) a b m e la lb = omega (arith, ints)

-- the magnitude is at most the greater of these numbers
pub magnitude_most : (n : ℕ) (e : Equation) (c m : ℕ) → times_in e.left c ≤ m → times_in e.right c ≤ m → magnitude (entry (row_of n e) c) ≤ m
magnitude_most n e c m l r = elim (cases_lt c n) [
  | inl low ↦ magnitude_within (entry (row_of n e) c) (times_in e.left c) (times_in e.right c) m (entry_row n e c low) l r
  | inr out ↦ (let none : magnitude (entry (row_of n e) c) ≡ 0 = ap magnitude (entry_outside n e c out) in omega arith)
]
