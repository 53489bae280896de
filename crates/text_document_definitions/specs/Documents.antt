-- The documents of the commands: the value of the bytes of an input, or its first error.
use Rattle.std.specs.Prelude.{ℕ, List, [], ◌∷◌, Result, Ok}
use Rattle.std.specs.List.{flat_map}
use Rattle.table_definitions.specs.Table.{Row}
use Rattle.text_definitions.specs.Text.{Line}
use Rattle.text_definitions.specs.declared.LexFault.{LexFault}
use Rattle.text_definitions.specs.Reading.{Reading, ◌>>=◌, start_of, begun, need_line_at, end_line_at}
use Rattle.table_definitions.specs.TableText.{lexed}
use Rattle.cone_text_definitions.specs.VectorText.{vector_at}
use Rattle.move_definitions.specs.Moves.{Move}
use Rattle.move_definitions.specs.MoveText.{Step, move_at, step_at}
use Rattle.signature_definitions.specs.declared.InputFault.{InputFault}
use Rattle.signature_definitions.specs.SignatureText.{texted, any_table_at}
use Rattle.cone_text_definitions.specs.ConeText.{Cone, cone_at}
use Rattle.surface_definitions.specs.Verdict.{Verdict, verdict_text}

-- a fault of the lexer, as one of the input
abbrev pub worded : {A : Type 0} → Result A LexFault → Result A InputFault
worded r = texted (lexed r)

-- no further line may follow: its first word is an extra word
abbrev pub no_line_from : List Line → Reading → Result Reading LexFault
no_line_from [] c = Ok c
no_line_from (l ∷ ls) c = end_line_at (begun l ls c)

abbrev pub no_line_at : Reading → Result Reading LexFault
no_line_at c = no_line_from c.later c

-- the lines that are left, each of one form
unfoldable pub each_line_from : {A : Type 0} → (Reading → Result (A × Reading) LexFault) → List Line → Reading → Result (List A × Reading) LexFault
each_line_from form [] c = Ok ([], c)
each_line_from form (l ∷ ls) c = do
  first ← form (begun l ls c)
  others ← each_line_from form ls first.1
  Ok (first.0 ∷ others.0, others.1)

-- a table on the next lines
unfoldable pub next_table_at : Reading → Result (List Row × Reading) InputFault
next_table_at c = do
  line ← worded (need_line_at c)
  any_table_at line

-- no table if no line is left, and otherwise a table and the tables after it
abbrev pub tables_on : List Line → Reading → (Reading → Result (List (List Row) × Reading) InputFault) → Result (List (List Row) × Reading) InputFault
tables_on [] c more = Ok ([], c)
tables_on (l ∷ ls) c more = do
  first ← any_table_at (begun l ls c)
  others ← more first.1
  Ok (first.0 ∷ others.0, others.1)

-- tables to the end of the input, at most one for each line that is left
unfoldable pub tables_from : List Line → Reading → Result (List (List Row) × Reading) InputFault
tables_from [] c = Ok ([], c)
tables_from (l ∷ most) c = tables_on c.later c (λ d. tables_from most d)

-- one table
unfoldable pub table_document : List ℕ → Result (List Row) InputFault
table_document bytes = do
  table ← next_table_at (start_of bytes)
  end ← worded (no_line_at table.1)
  Ok table.0

-- a table and lines of one form
unfoldable pub table_and_lines : {A : Type 0} → (Reading → Result (A × Reading) LexFault) → List ℕ → Result (List Row × List A) InputFault
table_and_lines form bytes = do
  table ← next_table_at (start_of bytes)
  lines ← worded (each_line_from form table.1.later table.1)
  Ok (table.0, lines.0)

-- a table and vectors; a table and steps; a table and moves
abbrev pub vectors_document : List ℕ → Result (List Row × List (List ℕ)) InputFault
vectors_document bytes = table_and_lines vector_at bytes

abbrev pub steps_document : List ℕ → Result (List Row × List Step) InputFault
steps_document bytes = table_and_lines step_at bytes

abbrev pub moves_document : List ℕ → Result (List Row × List Move) InputFault
moves_document bytes = table_and_lines move_at bytes

-- a table and one vector
unfoldable pub vector_document : List ℕ → Result (List Row × List ℕ) InputFault
vector_document bytes = do
  table ← next_table_at (start_of bytes)
  line ← worded (need_line_at table.1)
  vector ← worded (vector_at line)
  end ← worded (no_line_at vector.1)
  Ok (table.0, vector.0)

-- two tables
unfoldable pub two_tables_document : List ℕ → Result (List Row × List Row) InputFault
two_tables_document bytes = do
  first ← next_table_at (start_of bytes)
  second ← next_table_at first.1
  end ← worded (no_line_at second.1)
  Ok (first.0, second.0)

-- any number of tables
unfoldable pub tables_document : List ℕ → Result (List (List Row)) InputFault
tables_document bytes = do
  tables ← tables_from (start_of bytes).later (start_of bytes)
  Ok tables.0

-- a cone
unfoldable pub cone_document : List ℕ → Result Cone LexFault
cone_document bytes = do
  line ← need_line_at (start_of bytes)
  cone ← cone_at line
  end ← no_line_at cone.1
  Ok cone.0

-- one line for each vector
abbrev pub verdicts_text : List Verdict → List ℕ
verdicts_text vs = flat_map verdict_text vs
