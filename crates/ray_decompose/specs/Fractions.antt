-- The column of the least fraction.
use Rattle.std.specs.Prelude.{ℕ, ◌≢◌, ◌*◌, ◌<◌, ◌≤◌, List, slice_index}

-- of the columns below n with a nonzero entry of v, the quotient of r by v is least at this one
pub record IsLeastColumn (r v : List ℕ) (n column : ℕ) : Type 0 where
  pub in_range : column < n
  pub some : slice_index v column ≢ 0
  pub least : (other : ℕ) → other < n → slice_index r column * slice_index v other ≤ slice_index r other * slice_index v column
