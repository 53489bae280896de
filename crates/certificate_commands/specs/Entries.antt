-- The greatest of a list of entries.
use Rattle.std.specs.Prelude.{ℕ, ◌≤◌, List, All}

-- the greatest of least and the entries
pub record IsGreatestOf (least : ℕ) (entries : List ℕ) (greatest : ℕ) : Type 0 where
  pub from : least ≤ greatest
  pub up_to : All (λ entry. entry ≤ greatest) entries
  pub least_such : (most : ℕ) → least ≤ most → All (λ entry. entry ≤ most) entries → greatest ≤ most
