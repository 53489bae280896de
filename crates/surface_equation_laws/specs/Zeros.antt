-- A row's parts at a vector, by its entries.
use Rattle.std.specs.Prelude.{◌≡◌, ℕ, ◌+◌, ◌*◌, ◌<◌, List, length, ℤ, All, Contains, sum_by, slice_index}
use Rattle.table_definitions.specs.Lists.{below}
use Rattle.cone_definitions.specs.Rows.{Row as EquationRow, positive_coefficient, negative_coefficient, plus_part, minus_part}
use Rattle.table_definitions.specs.Table.{Row}
use Rattle.surface_definitions.specs.Coordinates.{columns}
use Rattle.surface_definitions.specs.declared.Coords.{Coords}
use Rattle.surface_definitions.specs.QuadEquations.{AreEquations}
use Rattle.surface_equation_laws.specs.Entries.{entry}

-- the sum of the row's positive entries times the vector's, over the columns below n, and of the magnitudes of the
-- negative ones
abbrev pub plus_entries : ℕ → EquationRow → List ℕ → ℕ
plus_entries n row x = sum_by (λ c. positive_coefficient (entry row c) * slice_index x c) (below n)

abbrev pub minus_entries : ℕ → EquationRow → List ℕ → ℕ
minus_entries n row x = sum_by (λ c. negative_coefficient (entry row c) * slice_index x c) (below n)

abbrev pub AreBelow : ℕ → EquationRow → Type 0
AreBelow n row = All (λ (term : ℕ × ℤ). term.0 < n) row

-- the parts of a row differ as those by its entries do, so the row is 0 where these are equal
abbrev pub PartsAreByEntries : Type 0
PartsAreByEntries = (n : ℕ) (row : EquationRow) (x : List ℕ) → AreBelow n row → plus_part row x + minus_entries n row x ≡ minus_part row x + plus_entries n row x

-- the terms of the equations of a table are in its columns
abbrev pub TermsAreInColumns : Type 0
TermsAreInColumns =
    (coords : Coords) (rows : List Row) (equations : List EquationRow) (row : EquationRow) → AreEquations coords rows equations → Contains equations row
    → AreBelow (columns coords (length rows)) row
