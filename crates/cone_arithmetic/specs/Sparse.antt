-- Sparse rows: their entries, and their positive and negative parts at a vector.
use Rattle.std.specs.Prelude.{◌≡◌, ℕ, ◌<◌, ◌≤◌, List, unsigned_abs}
use Rattle.std.specs.List.{All, AllPairs}
use Rattle.cone_definitions.specs.Rows.{Row, plus_part, minus_part}
use Rattle.cone_arithmetic.specs.declared.numbers.PlusMinus.{PlusMinus}

-- columns strictly ascending, and coefficients that are not 0 and of magnitude at most 1,000,000
pub record IsSparse (row : Row) : Type 0 where
  pub ascending : AllPairs (λ one other. one.0 < other.0) row
  pub nonzero : All (λ term. 1 ≤ unsigned_abs term.1) row
  pub bounded : All (λ term. unsigned_abs term.1 ≤ 1000000) row

-- each column of the row is below columns
abbrev pub IsInRange : ℕ → Row → Type 0
IsInRange columns row = All (λ term. term.0 < columns) row

-- the positive and the negative part of a row at a vector
pub record ArePartsAt (row : Row) (x : List ℕ) (parts : PlusMinus) : Type 0 where
  pub plus : parts.plus ≡ plus_part row x
  pub minus : parts.minus ≡ minus_part row x
