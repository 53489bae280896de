-- A cone in text: `cone C R` and R lines of C coefficients, or no line if C is 0.
use Rattle.std.specs.Prelude.{ℕ, zero, suc, ◌==◌, ℤ, pos, negsuc, List, [], ◌∷◌, replicate, map, filter, Result, Ok, codes, Bool, false, not}
use Rattle.std.specs.List.{enumerate_from}
use Rattle.text_definitions.specs.declared.LexFault.{LexFault}
use Rattle.text_definitions.specs.Reading.{Reading, ◌>>=◌, need_line_at, end_line_at, number_at, signed_at, exactly_at}
use Rattle.cone_definitions.specs.Rows.{Row}
use Rattle.cone_definitions.specs.Systems.{System}

-- the number of columns, and the rows, each with one coefficient for each column
pub record Cone : Type 0 where
  pub columns : ℕ
  pub rows : List (List ℤ)

-- a reader of the given number of signed decimals
unfoldable pub coefficients_at : ℕ → Reading → Result (List ℤ × Reading) LexFault
coefficients_at zero c = Ok ([], c)
coefficients_at (suc n) c = do
  first ← signed_at 1000000 c
  others ← coefficients_at n first.1
  Ok (first.0 ∷ others.0, others.1)

-- a line of `columns` coefficients
unfoldable pub cone_row_at : ℕ → Reading → Result (List ℤ × Reading) LexFault
cone_row_at columns c = do
  line ← need_line_at c
  row ← coefficients_at columns line
  end ← end_line_at row.1
  Ok (row.0, end)

unfoldable pub cone_rows_at : ℕ → ℕ → Reading → Result (List (List ℤ) × Reading) LexFault
cone_rows_at zero columns c = Ok ([], c)
cone_rows_at (suc n) columns c = do
  first ← cone_row_at columns c
  others ← cone_rows_at n columns first.1
  Ok (first.0 ∷ others.0, others.1)

-- the rows of a cone, which have no lines in the text if there are no columns
abbrev pub rows_of_cone_at : ℕ → ℕ → Reading → Result (List (List ℤ) × Reading) LexFault
rows_of_cone_at zero n c = Ok (replicate n [], c)
rows_of_cone_at (suc columns) n c = cone_rows_at n (suc columns) c

-- a cone, from the current line on, of which no word was taken yet
unfoldable pub cone_at : Reading → Result (Cone × Reading) LexFault
cone_at c = do
  named ← exactly_at (codes "cone") c
  columns ← number_at 10000 named
  count ← number_at 10000 columns.1
  end ← end_line_at count.1
  rows ← rows_of_cone_at columns.0 count.0 end
  Ok (record { columns = columns.0; rows = rows.0 }, rows.1)

abbrev pub is_zero : ℤ → Bool
is_zero (pos n) = n == 0
is_zero (negsuc n) = false

-- the columns of a row whose coefficient is not 0, each with its coefficient
abbrev pub sparse : List ℤ → Row
sparse row = filter (λ (term : ℕ × ℤ). not (is_zero term.1)) (enumerate_from 0 row)

-- a cone as a system: each row by its nonzero coefficients
abbrev pub system_of : Cone → System
system_of cone = record { columns = cone.columns; rows = map sparse cone.rows }
