-- Free columns of rows.
use Rattle.std.specs.Prelude.{◌≡◌, ℕ, ◌<◌, List, Bool, true, false, ℤ, pos, negsuc}
use Rattle.std.specs.List.{All}
use Rattle.cone_definitions.specs.Rows.{Row, plus_part, minus_part}
use Rattle.cone_definitions.specs.Surfaces.{Clash}
use Rattle.cone_definitions.specs.Vectors.{unit}
use Rattle.cone_row_laws.specs.Operations.{negated}
use Rattle.ray_steps.specs.Clashes.{IsFree}
use Rattle.lazy_columns.specs.Late.{IsUnseen}
use Rattle.lazy_columns.specs.declared.fresh.NewColumn.{NewColumn}

-- the row, or the negated row
abbrev pub oriented : Bool → Row → Row
oriented true row = negated row
oriented false row = row

-- -1 if the row is negated, and else 1
abbrev pub one_or_minus_one : Bool → ℤ
one_or_minus_one true = negsuc 0
one_or_minus_one false = pos 1

-- the coefficient of the oriented row in the column is 1
abbrev pub HasOne : ℕ → Row → ℕ → Bool → Type 0
HasOne columns row column is_negated = (plus_part (oriented is_negated row) (unit columns column) ≡ 1) × (minus_part (oriented is_negated row) (unit columns column) ≡ 0)

-- each column of the row that has not entered is this one
abbrev pub IsLone : Row → List Bool → ℕ → Type 0
IsLone row seen column = All (λ term. IsUnseen seen term.0 → term.0 ≡ column) row

-- a column that has not entered, with the coefficient 1 or -1, which clashes with no column
pub record IsFreeColumn (columns : ℕ) (row : Row) (pairs : List Clash) (seen : List Bool) (fresh : NewColumn) : Type 0 where
  pub in_range : fresh.column < columns
  pub unseen : IsUnseen seen fresh.column
  pub one : HasOne columns row fresh.column fresh.is_negated
  pub free : IsFree pairs fresh.column

-- the only column of the row that has not entered, with the coefficient 1 or -1, which clashes with no column
pub record IsFreshColumn (columns : ℕ) (row : Row) (pairs : List Clash) (seen : List Bool) (fresh : NewColumn) : Type 0 where
  pub in_range : fresh.column < columns
  pub unseen : IsUnseen seen fresh.column
  pub lone : IsLone row seen fresh.column
  pub one : HasOne columns row fresh.column fresh.is_negated
  pub free : IsFree pairs fresh.column
