-- The rows that an elimination has after each of its columns, and the rows that are made sparser afterwards.
use Rattle.std.specs.Prelude.{◌≡◌, ◌≢◌, ℕ, ◌+◌, ◌*◌, ◌<◌, ◌≤◌, ◌⊎◌, Bool, ◌&&◌, ◌==◌, List, [], ◌∷◌, ◌++◌, length, count_by, ℤ, pos, negsuc, Contains, slice_index_or, slice_set, Option, Some, None}
use Rattle.std.specs.List.{remove, list_any}
use Rattle.cone_definitions.specs.Rows.{Row, positive_coefficient, negative_coefficient}
use Rattle.cone_arithmetic.specs.Sparse.{IsSparse}
use Rattle.cone_row_laws.specs.Operations.{IsSumWith, negated}
use Rattle.row_reduction.specs.Clearing.{IsUnitAt}
use Rattle.row_reduction.specs.Merging.{IsCoefficientSum}

-- the row with index i
abbrev pub row_at : List Row → ℕ → Row
row_at rows i = slice_index_or rows i []

-- the number is 1 or -1
abbrev pub IsUnit : ℤ → Type 0
IsUnit number = (number ≡ pos 1) ⊎ (number ≡ negsuc 0)

-- a pivot row, and the column that it clears
pub record PivotData : Type 0 where
  pub row : Row
  pub column : ℕ

-- the row has no term at the column
abbrev pub HasNoTerm : Row → ℕ → Type 0
HasNoTerm row column = (coefficient : ℤ) → ¬ Contains row (column, coefficient)

-- adding factor times the other row cancels the term of the row at the column
pub record CancelsAt (column : ℕ) (row : Row) (factor : ℤ) (other : Row) : Type 0 where
  pub coefficient : ℤ
  pub other_coefficient : ℤ
  pub has : Contains row (column, coefficient)
  pub other_has : Contains other (column, other_coefficient)
  pub none_left : IsCoefficientSum coefficient factor other_coefficient (pos 0)

-- sum is the sparse row with the values of row + factor * other
pub record IsSparseSum (row : Row) (factor : ℤ) (other sum : Row) : Type 0 where
  pub is_sum : IsSumWith row factor other sum
  pub is_sparse : IsSparse sum

-- cleared is the row if it has no term at the column, and else its sum with the multiple of the pivot row that cancels
-- that term
abbrev pub IsCleared : Row → ℕ → Row → Row → Type 0
IsCleared pivot column row cleared =
    ((cleared ≡ row) × HasNoTerm row column) ⊎ ((factor : ℤ) × CancelsAt column row factor pivot × IsSparseSum row factor pivot cleared)

-- the pivot row clears the column from each of the rows
pub record AreCleared (pivot : Row) (column : ℕ) (rows cleared : List Row) : Type 0 where
  pub count : length cleared ≡ length rows
  pub each : (i : ℕ) → i < length rows → IsCleared pivot column (row_at rows i) (row_at cleared i)

-- of the first n rows, the place of one with the fewest terms among those with coefficient 1 or -1 at the column, or
-- none if there is no such row
abbrev pub IsPivotBelow : ℕ → List Row → ℕ → Option ℕ → Type 0
IsPivotBelow column rows n None = (i : ℕ) → i < n → ¬ IsUnitAt column (row_at rows i)
IsPivotBelow column rows n (Some place) = (place < n) × IsUnitAt column (row_at rows place)
    × ((i : ℕ) → i < n → IsUnitAt column (row_at rows i) → length (row_at rows place) ≤ length (row_at rows i))

-- no row has coefficient 1 or -1 at the column, and nothing changes
pub record PassesOver (column : ℕ) (unsolved solved unsolved_after solved_after : List Row) : Type 0 where
  pub none : IsPivotBelow column unsolved (length unsolved) None
  pub unsolved_stays : unsolved_after ≡ unsolved
  pub solved_stays : solved_after ≡ solved

-- an unsolved row becomes the last pivot row, and clears the column from all others
pub record SolvesFor (column : ℕ) (unsolved solved unsolved_after solved_after : List Row) : Type 0 where
  pub place : ℕ
  pub is_pivot : IsPivotBelow column unsolved (length unsolved) (Some place)
  pub unsolved_cleared : AreCleared (row_at unsolved place) column (remove unsolved place) unsolved_after
  pub cleared : List Row
  pub solved_cleared : AreCleared (row_at unsolved place) column solved cleared
  pub pivot_last : solved_after ≡ cleared ++ row_at unsolved place ∷ []

-- the rows without a pivot and the pivot rows, before and after the column is eliminated
abbrev pub AreSolvedFor : ℕ → List Row → List Row → List Row → List Row → Type 0
AreSolvedFor column unsolved solved unsolved_after solved_after =
    PassesOver column unsolved solved unsolved_after solved_after ⊎ SolvesFor column unsolved solved unsolved_after solved_after

-- the rows without a pivot and the pivot rows after these columns are eliminated, one after the other
pub data AreEliminated (rows : List Row) : List ℕ → List Row → List Row → Type 0 where
  no_columns : AreEliminated rows [] rows []
  column_more : (columns : List ℕ) (column : ℕ) (unsolved solved unsolved_after solved_after : List Row) → AreEliminated rows columns unsolved solved
      → AreSolvedFor column unsolved solved unsolved_after solved_after → AreEliminated rows (columns ++ column ∷ []) unsolved_after solved_after

-- the row is appended, or left out because it is empty or equal to another one or its negative
abbrev pub KeepsRow : List Row → Row → List Row → Type 0
KeepsRow old row new = (new ≡ old ++ row ∷ []) ⊎ ((new ≡ old) × ((row ≡ []) ⊎ (Contains old row ⊎ Contains old (negated row))))

-- kept are the rows in their order, without some that are empty or equal to a kept row or its negative
pub data AreKept : List Row → List Row → Type 0 where
  no_rows : AreKept [] []
  kept_more : (rows kept new : List Row) (row : Row) → AreKept rows kept → KeepsRow kept row new → AreKept (rows ++ row ∷ []) new

-- factor times the other row, for the factor 1 or -1, cancels a term of the row
pub record CancelsTerm (row : Row) (factor : ℤ) (other : Row) : Type 0 where
  pub unit : IsUnit factor
  pub column : ℕ
  pub cancels : CancelsAt column row factor other

-- whether number + factor * other is 0
abbrev pub is_zero_sum : ℤ → ℤ → ℤ → Bool
is_zero_sum number factor other =
    negative_coefficient number + (positive_coefficient factor * negative_coefficient other + negative_coefficient factor * positive_coefficient other)
    == positive_coefficient number + (positive_coefficient factor * positive_coefficient other + negative_coefficient factor * negative_coefficient other)

-- whether the other row has a term at the column of the term
abbrev pub is_shared : Row → ℕ × ℤ → Bool
is_shared other term = list_any (λ (at : ℕ × ℤ). term.0 == at.0) other

-- whether factor times the other row cancels the term
abbrev pub is_cancelled : ℤ → Row → ℕ × ℤ → Bool
is_cancelled factor other term = list_any (λ (at : ℕ × ℤ). (term.0 == at.0) && is_zero_sum term.1 factor at.1) other

-- row + factor * other has fewer terms than the row, if neither has two terms at one column: the terms of the other row
-- at columns where the row has none are fewer than the terms that are cancelled
abbrev pub HasFewerTerms : Row → ℤ → Row → Type 0
HasFewerTerms row factor other = length other < count_by (is_shared other) row + count_by (is_cancelled factor other) row

-- factor times the other row, for the factor 1 or -1, cancels more terms of the row than it adds
pub record Thins (row : Row) (factor : ℤ) (other : Row) : Type 0 where
  pub cancels : CancelsTerm row factor other
  pub fewer : HasFewerTerms row factor other

-- a row is replaced by its sum or difference with another row of the list; the new row has fewer terms than the old one
pub record ThinsRow (rows new : List Row) : Type 0 where
  pub i : ℕ
  pub j : ℕ
  pub within : i < length rows
  pub other_within : j < length rows
  pub different : i ≢ j
  pub factor : ℤ
  pub thins : Thins (row_at rows i) factor (row_at rows j)
  pub sum : Row
  pub is_sum : IsSparseSum (row_at rows i) factor (row_at rows j) sum
  pub shorter : length sum < length (row_at rows i)
  pub replaced : new ≡ slice_set rows i sum

-- the rows after some replacements, one after the other
pub data AreThinned (rows : List Row) : List Row → Type 0 where
  as_they_are : AreThinned rows rows
  row_more : (middle new : List Row) → AreThinned rows middle → ThinsRow middle new → AreThinned rows new
