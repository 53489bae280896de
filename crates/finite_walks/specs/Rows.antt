-- The marks of a row of neighbours, in a step of a search.
use Rattle.std.specs.Prelude.{◌≡◌, ℕ, ◌≤◌, List, [], length, drop, Bool}
use Rattle.table_walk_laws.specs.Search.{IsSearchStep, AreMembers, work_left}

-- the numbers of the row in done are marked, and those not marked before are appended to pending: the step of the
-- search, its members and its measure are unchanged
pub record IsRowMarked (row done : List ℕ) (before after : List Bool) (pending longer : List ℕ) : Type 0 where
  pub size : length after ≡ length before
  pub not_longer : length pending ≤ length longer
  pub turn : (neighbours : ℕ → List ℕ) (first : List Bool) (x k : ℕ) → neighbours x ≡ row → k ≤ length pending → IsSearchStep neighbours first x [] before (drop k pending) → IsSearchStep neighbours first x done after (drop k longer)
  pub members : (old : List Bool) → AreMembers old before pending → AreMembers old after longer
  pub work : (k : ℕ) → k ≤ length pending → work_left after (drop k longer) ≡ work_left before (drop k pending)
