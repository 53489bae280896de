-- Rows by their numbers.
use Rattle.std.specs.Prelude.{ℕ, ◌≤◌, List, [], ℤ, sum_by}
use Rattle.std.specs.List.{slice_index_or}
use Rattle.cone_definitions.specs.Rows.{Row as EquationRow}
use Rattle.cone_bound_laws.specs.Caps.{magnitude}
use Rattle.surface_equation_laws.specs.Entries.{entry, IsOnce, column_sum}

-- the entry in row r and column c
abbrev pub entry_at : List EquationRow → ℕ → ℕ → ℤ
entry_at rows r c = entry (slice_index_or rows r []) c

-- in a column rows with different numbers have at most the sum of all rows
abbrev pub SelectedColumnSumsAreSmaller : Type 0
SelectedColumnSumsAreSmaller = (rows : List EquationRow) (numbers : List ℕ) (c : ℕ) → IsOnce numbers → sum_by (λ r. magnitude (entry_at rows r c)) numbers ≤ column_sum rows c
