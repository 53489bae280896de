-- Whether given terms add up to a vector, and the first error if they do not.
use Rattle.std.specs.Prelude.{◌≡◌, ℕ, ◌*◌, ◌≤◌, List, length, ◌==◌, nat_lt, Option, Some, None, slice_index, if◌then◌else◌}
use Rattle.std.specs.List.{sum_by}
use Rattle.table_definitions.specs.Lists.{below, first_some}
use Rattle.sum_definitions.specs.Sums.{Term, IsWithinTimes}
use Rattle.sum_definitions.specs.declared.AddFault.{AddFault}
use Rattle.sum_definitions.specs.declared.AddFault.TheVariants.{ZeroTimes, Large, NotEqual}

-- the counts times the entries at a column, added up
abbrev pub sum_at : List Term → ℕ → ℕ
sum_at terms column = sum_by (λ term. term.count * slice_index term.vector column) terms

-- taken at least once, and within the limit, the vector is the sum of the terms
pub record AddsUp (limit : ℕ) (x : List ℕ) (times : ℕ) (terms : List Term) : Type 0 where
  pub some : 1 ≤ times
  pub within : IsWithinTimes limit x times
  pub equal : (column : ℕ) → times * slice_index x column ≡ sum_at terms column

-- what is wrong at a column: the entry exceeds the limit, or else it is not the sum
abbrev pub column_fault : ℕ → List ℕ → ℕ → List Term → ℕ → Option AddFault
column_fault limit x times terms column =
    if nat_lt limit (times * slice_index x column) then Some (Large column)
    else (if times * slice_index x column == sum_at terms column then None else Some (NotEqual column))

-- the vector is taken no times, or else the first column at which something is wrong
unfoldable pub add_fault : ℕ → List ℕ → ℕ → List Term → Option AddFault
add_fault limit x times terms = if times == 0 then Some ZeroTimes else first_some (column_fault limit x times terms) (below (length x))
