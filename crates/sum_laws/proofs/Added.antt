-- No fault is found in terms if and only if they add up.
use Rattle.std.proofs.Common.{◌≡◌, ℕ, ◌*◌, ◌≤◌, inl, inr, ◌↔◌, Bool, true, false, List, [], ◌∷◌, length, slice_index, All, Option, Some, None, ap, refl, ◌∙◌, arith}
use Rattle.std.specs.Prelude.{◌==◌, nat_lt, if◌then◌else◌}
use Rattle.std.proofs.lemmas.Bool.{cases_lt, eqb-true, eq-eqb, le-ltb}
use Rattle.std.proofs.lemmas.List.Sums.{sum_by-cons}
use Rattle.std.proofs.lemmas.List.Elements.{All-head, All-tail}
use Rattle.table_definitions.proofs.TableLaws.{first_some-none, first_some_never, Among-below}
use Rattle.table_definitions.specs.Lists.{below, first_some}
use Rattle.cone_definitions.proofs.Entries.{entry_past}
use Rattle.sum_definitions.specs.Sums.{Term}
use Rattle.sum_definitions.specs.Adding.{sum_at, AddsUp, column_fault, add_fault}
use Rattle.sum_definitions.specs.declared.AddFault.{AddFault}
use Rattle.sum_definitions.specs.declared.AddFault.TheVariants.{ZeroTimes, Large, NotEqual}

-- what is wrong with a number and a sum
abbrev fault_of : Bool → Bool → ℕ → Option AddFault
fault_of passes equal column = if passes then Some (Large column) else (if equal then None else Some (NotEqual column))

none_of : (passes equal : Bool) (column : ℕ) → fault_of passes equal column ≡ None → (passes ≡ false) × (equal ≡ true)
none_of true equal column e = let f : Some (Large column) ≡ None = e in cc
none_of false true column e = (refl, refl)
none_of false false column e = let f : Some (NotEqual column) ≡ None = e in cc

lt_false : (a b : ℕ) → nat_lt a b ≡ false → b ≤ a
lt_false a b e = grind arith

module _ (limit : ℕ) (x : List ℕ) (times : ℕ) (terms : List Term) where
  column_none : (j : ℕ) → column_fault limit x times terms j ≡ None → (times * slice_index x j ≤ limit) × (times * slice_index x j ≡ sum_at terms j)
  column_none j e = let b = none_of (nat_lt limit (times * slice_index x j)) (times * slice_index x j == sum_at terms j) j e in
      (lt_false limit (times * slice_index x j) b.0, eqb-true (times * slice_index x j) (sum_at terms j) b.1)

  none_column : (j : ℕ) → times * slice_index x j ≤ limit → times * slice_index x j ≡ sum_at terms j → column_fault limit x times terms j ≡ None
  none_column j l e = let a : nat_lt limit (times * slice_index x j) ≡ false = le-ltb limit (times * slice_index x j) l in
      let b : (times * slice_index x j == sum_at terms j) ≡ true = eq-eqb (times * slice_index x j) (sum_at terms j) e in
      ap (λ c. fault_of c (times * slice_index x j == sum_at terms j) j) a ∙ ap (λ c. fault_of false c j) b

sum_past : (x : List ℕ) (terms : List Term) (j : ℕ) → All (λ (term : Term). length term.vector ≡ length x) terms → length x ≤ j → sum_at terms j ≡ 0
sum_past x [] j widths exceeded = refl
sum_past x (term ∷ terms) j widths exceeded = sum_by-cons (λ (t : Term). t.count * slice_index t.vector j) term terms ∙
    (let i : sum_at terms j ≡ 0 = sum_past x terms j (All-tail (λ (t : Term). length t.vector ≡ length x) term terms widths) exceeded in
    let z : slice_index term.vector j ≡ 0 = entry_past term.vector (length x) j (All-head (λ (t : Term). length t.vector ≡ length x) term terms widths) exceeded in
    let w : term.count * slice_index term.vector j ≡ 0 = rw z (omega arith) in omega arith)

first_of_all : (b : Bool) (o : Option AddFault) → (if b then Some ZeroTimes else o) ≡ None → (b ≡ false) × (o ≡ None)
first_of_all true o e = let f : Some ZeroTimes ≡ None = e in cc
first_of_all false o e = (refl, e)

nonzero_eqb : (a : ℕ) → (a == 0) ≡ false → 1 ≤ a
nonzero_eqb a e = grind arith

eqb_nonzero : (a : ℕ) → 1 ≤ a → (a == 0) ≡ false
eqb_nonzero a l = grind arith

no_fault : (limit : ℕ) (x : List ℕ) (times : ℕ) (terms : List Term) → All (λ (term : Term). length term.vector ≡ length x) terms → add_fault limit x times terms ≡ None → AddsUp limit x times terms
unfolding add_fault
no_fault limit x times terms widths e = record {
  some = nonzero_eqb times parts.0;
  within = λ j. (at j).0;
  equal = λ j. (at j).1;
}
  where
    parts : ((times == 0) ≡ false) × (first_some (column_fault limit x times terms) (below (length x)) ≡ None)
    parts = first_of_all (times == 0) (first_some (column_fault limit x times terms) (below (length x))) e

    at : (j : ℕ) → (times * slice_index x j ≤ limit) × (times * slice_index x j ≡ sum_at terms j)
    at j = elim (cases_lt j (length x)) [
      | inl l ↦ column_none limit x times terms j (first_some-none (column_fault limit x times terms) j (below (length x)) parts.1 (Among-below j (length x) l))
      | inr exceeded ↦ let z : slice_index x j ≡ 0 = entry_past x (length x) j refl exceeded in let w : times * slice_index x j ≡ 0 = rw z (omega arith) in
          let s : sum_at terms j ≡ 0 = sum_past x terms j widths exceeded in (omega arith, omega arith)
    ]

fault_none : (limit : ℕ) (x : List ℕ) (times : ℕ) (terms : List Term) → AddsUp limit x times terms → add_fault limit x times terms ≡ None
unfolding add_fault
fault_none limit x times terms h = ap (λ b. if b then Some ZeroTimes else first_some (column_fault limit x times terms) (below (length x))) (eqb_nonzero times h.some) ∙
    first_some_never (column_fault limit x times terms) (below (length x)) (λ j. none_column limit x times terms j (h.within j) (h.equal j))

pub no_fault_adds_up : (limit : ℕ) (x : List ℕ) (times : ℕ) (terms : List Term) → All (λ (term : Term). length term.vector ≡ length x) terms →
    (add_fault limit x times terms ≡ None) ↔ AddsUp limit x times terms
no_fault_adds_up limit x times terms widths = (no_fault limit x times terms widths, fault_none limit x times terms)
