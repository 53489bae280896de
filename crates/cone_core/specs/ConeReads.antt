-- What reading a cone returns.
use Rattle.std.specs.Prelude.{◌≡◌, ℕ, ℤ, List, [], ◌∷◌, map, if◌then◌else◌, Result, Ok, Err}
use Rattle.text_definitions.specs.declared.LexFault.{LexFault}
use Rattle.text_definitions.specs.Reading.{Reading, ◌>>=◌}
use Rattle.cone_text_definitions.specs.ConeText.{Cone, coefficients_at, cone_row_at, cone_rows_at, is_zero, sparse, system_of}
use Rattle.cone_definitions.specs.Rows.{Row}
use Rattle.cone_definitions.specs.Systems.{System}
use Rattle.cone_core.specs.declared.reader.ConeFault.{ConeFault}
use Rattle.cone_core.specs.declared.reader.ConeFault.TheVariants.{Lex, NoMemory}

-- the call returns the cone that the definition reads, with the rest of the input, or its error; after an error nothing
-- is stated about the rest
abbrev pub GivesCone : Result System ConeFault → Reading → Result (Cone × Reading) LexFault → Type 0
GivesCone (Ok system) left read = (cone : Cone) × (read ≡ Ok (cone, left)) × (system ≡ system_of cone)
GivesCone (Err (Lex fault)) left read = read ≡ Err fault
GivesCone (Err NoMemory) left read = Unit {0}

-- the call fails with the error of the definition, or memory runs out
abbrev pub FailsHere : {A : Type 0} → ConeFault → Result A LexFault → Type 0
FailsHere (Lex fault) read = read ≡ Err fault
FailsHere NoMemory read = Unit {0}

-- the call returns the value that the definition reads, by view, or fails
abbrev pub GivesHere : {X A : Type 0} → (X → A) → Result X ConeFault → Reading → Result (A × Reading) LexFault → Type 0
GivesHere view (Ok x) left read = read ≡ Ok (view x, left)
GivesHere view (Err fault) left read = FailsHere fault read

-- the entries of one coefficient: one, or none if it is 0
abbrev pub entries_of : ℕ → ℤ → Row
entries_of column z = if is_zero z then [] else (column, z) ∷ []

-- coefficients, a line of them, and lines of them, as rows
abbrev pub sparse_entries_at : ℕ → Reading → Result (Row × Reading) LexFault
sparse_entries_at columns c = coefficients_at columns c >>= λ r. Ok (sparse r.0, r.1)

abbrev pub sparse_row_at : ℕ → Reading → Result (Row × Reading) LexFault
sparse_row_at columns c = cone_row_at columns c >>= λ r. Ok (sparse r.0, r.1)

abbrev pub sparse_rows_at : ℕ → ℕ → Reading → Result (List Row × Reading) LexFault
sparse_rows_at count columns c = cone_rows_at count columns c >>= λ r. Ok (map sparse r.0, r.1)
