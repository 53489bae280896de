-- What the error Passed means: a coefficient of a sum that the elimination forms exceeds the greatest one.
use Rattle.std.specs.Prelude.{◌≡◌, ◌≢◌, ℕ, ◌<◌, ◌⊎◌, List, ◌∷◌, ◌++◌, length, ℤ, pos, Contains, unsigned_abs, Some}
use Rattle.std.specs.List.{All, remove}
use Rattle.cone_definitions.specs.Rows.{Row}
use Rattle.row_reduction.specs.declared.fault.SolveFault.{SolveFault}
use Rattle.row_reduction.specs.declared.fault.SolveFault.TheVariants.{Passed, NoMemory}
use Rattle.row_reduction.specs.Merging.{IsCoefficientSum}
use Rattle.row_reduction.specs.Eliminating.{row_at, CancelsAt, IsPivotBelow, AreEliminated, AreKept, Thins, AreThinned}

-- the row's coefficient at the column, which is 0 if it has no term there
abbrev pub IsCoefficientAt : Row → ℕ → ℤ → Type 0
IsCoefficientAt row column coefficient = Contains row (column, coefficient) ⊎ ((coefficient ≡ pos 0) × All (λ term. term.0 ≢ column) row)

-- |number + factor * other| exceeds the greatest coefficient
pub record PassesSum (number factor other : ℤ) : Type 0 where
  pub sum : ℤ
  pub is_sum : IsCoefficientSum number factor other sum
  pub passes : 1000000 < unsigned_abs sum

-- a coefficient of row + factor * other exceeds the greatest one
pub record PassesAtColumn (row : Row) (factor : ℤ) (other : Row) : Type 0 where
  pub column : ℕ
  pub coefficient : ℤ
  pub other_coefficient : ℤ
  pub is : IsCoefficientAt row column coefficient
  pub other_is : IsCoefficientAt other column other_coefficient
  pub passes : PassesSum coefficient factor other_coefficient

-- one of the rows has a term at the column, and a coefficient of its sum with the multiple of the pivot row that
-- cancels that term exceeds the greatest one
pub record PassesClearing (pivot : Row) (column : ℕ) (rows : List Row) : Type 0 where
  pub row : Row
  pub among : Contains rows row
  pub factor : ℤ
  pub cancels : CancelsAt column row factor pivot
  pub passes : PassesAtColumn row factor pivot

-- a row of either block passes, when the row at the place is taken out of the unsolved rows as the pivot row
pub record PassesFor (column : ℕ) (unsolved solved : List Row) : Type 0 where
  pub place : ℕ
  pub is_pivot : IsPivotBelow column unsolved (length unsolved) (Some place)
  pub passes : PassesClearing (row_at unsolved place) column (remove unsolved place) ⊎ PassesClearing (row_at unsolved place) column solved

-- a coefficient exceeds the greatest one when one of the pivots is eliminated, after those before it
pub record PassesAtPivot (rows : List Row) (pivots : List ℕ) : Type 0 where
  pub before : List ℕ
  pub column : ℕ
  pub after : List ℕ
  pub in_order : pivots ≡ before ++ column ∷ after
  pub unsolved : List Row
  pub solved : List Row
  pub eliminated : AreEliminated rows before unsolved solved
  pub passes : PassesFor column unsolved solved

-- a coefficient of the sum or difference of two of the rows that cancels a term of the first exceeds the greatest one
pub record PassesThinning (rows : List Row) : Type 0 where
  pub i : ℕ
  pub j : ℕ
  pub within : i < length rows
  pub other_within : j < length rows
  pub different : i ≢ j
  pub factor : ℤ
  pub thins : Thins (row_at rows i) factor (row_at rows j)
  pub passes : PassesAtColumn (row_at rows i) factor (row_at rows j)

-- as PassesThinning, after some rows are replaced
pub record PassesThinned (rows : List Row) : Type 0 where
  pub thinned : List Row
  pub are_thinned : AreThinned rows thinned
  pub passes : PassesThinning thinned

-- as PassesThinned, for the rows without repetition
pub record PassesAmong (rows : List Row) : Type 0 where
  pub kept : List Row
  pub are_kept : AreKept rows kept
  pub passes : PassesThinned kept

-- as PassesAmong, for the rows without a pivot after all pivots are eliminated
pub record PassesAfterPivots (rows : List Row) (pivots : List ℕ) : Type 0 where
  pub unsolved : List Row
  pub solved : List Row
  pub eliminated : AreEliminated rows pivots unsolved solved
  pub passes : PassesAmong unsolved

-- a coefficient of a sum exceeds the greatest one when the rows are eliminated for the pivots in their order, or
-- afterwards when the rows without a pivot are made sparser
abbrev pub HasPassedSum : List Row → List ℕ → Type 0
HasPassedSum rows pivots = PassesAtPivot rows pivots ⊎ PassesAfterPivots rows pivots

-- if the error is Passed, P holds
abbrev pub IfPassed : Type 0 → SolveFault → Type 0
IfPassed P Passed = P
IfPassed P NoMemory = Unit {0}
