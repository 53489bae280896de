-- The first disc of each column.
use Rattle.std.specs.Prelude.{◌≡◌, ℕ, ◌<◌, List, length, take, sum, slice_index}

-- for each column the number of discs in the columns before it
pub record AreStarts (xs starts : List ℕ) : Type 0 where
  pub size : length starts ≡ length xs
  pub before : (c : ℕ) → c < length xs → slice_index starts c ≡ sum (take c xs)
