-- The orders of rows, the position that each names in a list of row numbers, and the rows that it takes one after
-- another.
use Rattle.std.specs.Prelude.{◌≡◌, ℕ, ◌<◌, ◌↔◌, ◌&&◌, ◌||◌, ◌==◌, nat_lt, List, [], ◌∷◌, Bool, false, length, take, slice_index, slice_index_or, Contains}
use Rattle.std.specs.List.{AllPairs, IsFirstBest}
use Rattle.cone_definitions.specs.Rows.{Row}
use Rattle.cone_definitions.specs.Systems.{System}
use Rattle.cone_definitions.specs.declared.Order.{Order}
use Rattle.cone_definitions.specs.declared.Order.TheVariants.{Given, Short, Zeros, Free}

-- the columns before the first nonzero coefficient; all columns if there is none
abbrev pub leading_zeros : ℕ → Row → ℕ
leading_zeros columns [] = columns
leading_zeros columns (term ∷ _) = term.0

-- the row of a number
abbrev pub row_of : System → ℕ → Row
row_of system number = slice_index_or system.rows number []

-- one row number comes before another: by the measure of the order, and then by the number
abbrev pub prefers : Order → System → ℕ → ℕ → Bool
prefers Given system a b = nat_lt a b
prefers Short system a b =
    nat_lt (length (row_of system a)) (length (row_of system b)) || (length (row_of system a) == length (row_of system b) && nat_lt a b)
prefers Zeros system a b =
    nat_lt (leading_zeros system.columns (row_of system b)) (leading_zeros system.columns (row_of system a))
    || (leading_zeros system.columns (row_of system a) == leading_zeros system.columns (row_of system b) && nat_lt a b)
prefers Free system a b = false

-- the first position before whose row number none comes
abbrev pub IsNamed : Order → System → List ℕ → ℕ → Type 0
IsNamed Free system rows position = position < length rows
IsNamed order system rows position = IsFirstBest (prefers order system) rows (length rows) position

-- the numbers of the rows that are not taken, ascending
pub record AreLeft (count : ℕ) (taken left : List ℕ) : Type 0 where
  pub ascending : AllPairs (λ one other. one < other) left
  pub members : (number : ℕ) → Contains left number ↔ ((number < count) × ¬ Contains taken number)

-- the row is the one that the order names among those that are not taken
pub record IsNamedTurn (order : Order) (system : System) (taken : List ℕ) (number : ℕ) : Type 0 where
  pub left : List ℕ
  pub left_of : AreLeft (length system.rows) taken left
  pub position : ℕ
  pub in_range : position < length left
  pub is : slice_index left position ≡ number
  pub named : IsNamed order system left position

-- each row is the one that the order names next
abbrev pub AreNamed : Order → System → List ℕ → Type 0
AreNamed order system taken = (k : ℕ) → k < length taken → IsNamedTurn order system (take k taken) (slice_index taken k)
