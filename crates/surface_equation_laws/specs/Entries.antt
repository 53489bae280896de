-- The entries of rows, column by column, and sums of them.
use Rattle.std.specs.Prelude.{ℕ, ◌≤◌, ◌==◌, List, [], ◌∷◌, ℤ, pos, ◌+ℤ◌, sum_by, if◌then◌else◌}
use Rattle.table_definitions.specs.Lists.{times_in}
use Rattle.cone_bound_laws.specs.Caps.{magnitude}
use Rattle.cone_definitions.specs.Rows.{Row as EquationRow, positive_coefficient, negative_coefficient}

-- the entry of a row in a column: the sum of its terms there
unfoldable pub entry : EquationRow → ℕ → ℤ
entry [] c = pos 0
entry (t ∷ ts) c = (if t.0 == c then t.1 else pos 0) +ℤ entry ts c

-- each number occurs at most once
abbrev pub IsOnce : List ℕ → Type 0
IsOnce cs = (c : ℕ) → times_in cs c ≤ 1

-- the sum of the row's positive entries in these columns, and of the magnitudes of the negative ones
abbrev pub plus_over : EquationRow → List ℕ → ℕ
plus_over row cs = sum_by (λ c. positive_coefficient (entry row c)) cs

abbrev pub minus_over : EquationRow → List ℕ → ℕ
minus_over row cs = sum_by (λ c. negative_coefficient (entry row c)) cs

-- the sum of the magnitudes of all rows in a column
abbrev pub column_sum : List EquationRow → ℕ → ℕ
column_sum rows c = sum_by (λ row. magnitude (entry row c)) rows
