-- The first fault of given terms.
use Rattle.std.proofs.Common.{◌≡◌, ◌≢◌, ℕ, ◌+◌, ◌*◌, ◌<◌, ◌≤◌, List, take, length, slice_index, get_or, All, Bool, false, Some, None, Option, sym, ap, ◌∙◌, arith}
use Rattle.std.specs.Prelude.{◌==◌, if◌then◌else◌}
use Rattle.std.proofs.lemmas.Bool.{eq-eqb}
use Rattle.std.proofs.lemmas.List.{length-map, get_or-map, take-map, get_or_default}
use Rattle.std.proofs.lemmas.List.Sums.{sum_by_more_le}
use Rattle.std.proofs.lemmas.List.Elements.{All-map}
use Rattle.table_definitions.proofs.ListFacts.{first_some-below, first_some-none_below}
use Rattle.table_definitions.specs.Lists.{below, first_some}
use Rattle.sum_definitions.specs.Sums.{Term}
use Rattle.sum_definitions.specs.Adding.{sum_at, AddsUp, column_fault, add_fault}
use Rattle.sum_definitions.specs.declared.AddFault.{AddFault}
use Rattle.sum_definitions.specs.declared.AddFault.TheVariants.{ZeroTimes}
use Rattle.sum_laws.proofs.Added.{no_fault_adds_up}
use Rattle.ray_decompose.specs.declared.adding.Given.{Given}
use Rattle.ray_decompose.specs.Sums.{term_of, terms_of, HasWidth}

-- an entry, as it was read
pub entry_is : (xs : List ℕ) (i entry : ℕ) → i < length xs → entry ≡ get_or xs i entry → entry ≡ slice_index xs i
entry_is xs i entry l e = e ∙ get_or_default xs i entry 0 l

-- each term has a column that the vector has
pub wide : (x : List ℕ) (terms : List Given) (column : ℕ) → column < length x → All (HasWidth (length x)) terms → All (λ (g : Given). column < length g.entries.items) terms
wide x terms column l widths k d m = let e = widths k d m in omega (arith, l, e)

-- with one more term, the sum in a column exceeds the vector's entry
pub too_much : (terms : List Given) (sum left column i : ℕ) (g : Given) → i < length terms → g ≡ get_or terms i g → sum ≡ sum_at (terms_of (take i terms)) column + left →
    left < g.count * slice_index g.entries.items column → sum ≡ sum_at (terms_of terms) column → ⊥
too_much terms sum left column i g l is so_far passed e =
    let m : sum_at (take i (terms_of terms)) column + product (get_or (terms_of terms) i (term_of g)) ≤ sum_at (terms_of terms) column = sum_by_more_le product (terms_of terms) i (term_of g) (let n : length (terms_of terms) ≡ length terms = length-map terms term_of in omega arith) in
    let t : sum_at (terms_of (take i terms)) column ≡ sum_at (take i (terms_of terms)) column = ap (λ ts. sum_at ts column) (sym (take-map term_of i terms)) in
    let p : product (get_or (terms_of terms) i (term_of g)) ≡ g.count * slice_index g.entries.items column = ap product (get_or-map term_of terms i g (term_of g) l ∙ ap term_of (sym is)) in
    omega arith
  where
    product : Term → ℕ
    product term = term.count * slice_index term.vector column

not_eqb : (a : ℕ) → a ≢ 0 → (a == 0) ≡ false
not_eqb a n = grind arith

module _ (limit : ℕ) (x : List ℕ) (times : ℕ) (terms : List Term) where
  abbrev chosen : Bool → Option AddFault
  chosen b = if b then Some ZeroTimes else first_some (column_fault limit x times terms) (below (length x))

  pub zero_fault : times ≡ 0 → add_fault limit x times terms ≡ Some ZeroTimes
  unfolding add_fault
  zero_fault z = ap chosen (eq-eqb times 0 z)

  pub first_fault : (i : ℕ) (fault : AddFault) → times ≢ 0 → i < length x → ((k : ℕ) → k < i → column_fault limit x times terms k ≡ None) →
      column_fault limit x times terms i ≡ Some fault → add_fault limit x times terms ≡ Some fault
  unfolding add_fault
  first_fault i fault some l before here = ap chosen (not_eqb times some) ∙ first_some-below (column_fault limit x times terms) (length x) i fault l before here

  pub no_faults : times ≢ 0 → ((k : ℕ) → k < length x → column_fault limit x times terms k ≡ None) → add_fault limit x times terms ≡ None
  unfolding add_fault
  no_faults some all = ap chosen (not_eqb times some) ∙ first_some-none_below (column_fault limit x times terms) (length x) all

pub given_add_up : (limit : ℕ) (x : List ℕ) (times : ℕ) (terms : List Given) → All (HasWidth (length x)) terms → add_fault limit x times (terms_of terms) ≡ None →
    AddsUp limit x times (terms_of terms)
given_add_up limit x times terms widths e = (no_fault_adds_up limit x times (terms_of terms) (All-map (λ (term : Term). length term.vector ≡ length x) term_of terms widths)).0 e
