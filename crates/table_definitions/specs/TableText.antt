-- A table in text: `tri N` and N lines of four entries. Reading it, writing it, and the lines that are one.
use Rattle.std.specs.Prelude.{ℕ, zero, suc, ◌-◌, ◌^◌, ◌&&◌, List, [], ◌∷◌, ◌++◌, length, map, Option, Some, None, Result, Ok, Err, nat_lt, ◌==◌, if◌then◌else◌, codes, decimal}
use Rattle.std.specs.List.{before_first, after_first, flat_map}
use Rattle.table_definitions.specs.Lists.{same_list}
use Rattle.table_definitions.specs.Permutation.{is_permutation, digits_of}
use Rattle.table_definitions.specs.declared.TableFault.{TableFault}
use Rattle.table_definitions.specs.declared.TableFault.TheVariants.{TooMany}
use Rattle.table_definitions.specs.declared.TextFault.{TextFault}
use Rattle.table_definitions.specs.declared.TextFault.TheVariants.{Lex, Table}
use Rattle.table_definitions.specs.Table.{max_tets, Gluing, Row, table_fault}
use Rattle.text_definitions.specs.Text.{decimal_value}
use Rattle.text_definitions.specs.declared.LexKind.TheVariants.{NumberTooWide, BadWord}
use Rattle.text_definitions.specs.declared.LexFault.{LexFault}
use Rattle.text_definitions.specs.Reading.{Reading, ◌>>=◌, word_fault, need_line_at, word_at, end_line_at, number_at, exactly_at}
use Rattle.text_definitions.specs.Written.{limit, spaced}

-- a reader's fault, as one of a table's text
abbrev pub lexed : {A : Type 0} → Result A LexFault → Result A TextFault
lexed (Ok x) = Ok x
lexed (Err e) = Err (Lex e)

-- the permutation whose four digits the word has
unfoldable pub permutation_of : List ℕ → Option (List ℕ)
permutation_of w =
    let p : List ℕ = map (λ d. d - 48) w in
    if same_list (digits_of p) w && is_permutation p then Some p else None

abbrev pub gluing_parts : Option ℕ → Option (List ℕ) → Option Gluing
gluing_parts None p = None
gluing_parts (Some t) None = None
gluing_parts (Some t) (Some p) = Some (record { tet = t; perm = p })

-- the gluing that a word `t:p` names, of whatever width t is
abbrev pub gluing_of : List ℕ → Option Gluing
gluing_of w = gluing_parts (decimal_value (before_first (λ b. b == 58) w)) (permutation_of (after_first (λ b. b == 58) w))

abbrev pub gluing_entry : Option Gluing → Reading → Result (Option Gluing × Reading) LexFault
gluing_entry None c = Err (word_fault c BadWord)
gluing_entry (Some g) c = if nat_lt g.tet (2 ^ 32) then Ok (Some g, c) else Err (word_fault c NumberTooWide)

-- what a face is glued by: `-` or `t:p`
unfoldable pub entry_at : Reading → Result (Option Gluing × Reading) LexFault
entry_at c = do
  w ← word_at c
  if same_list w.0 (codes "-") then Ok (None, w.1) else gluing_entry (gluing_of w.0) w.1

-- a line of four entries
unfoldable pub row_at : Reading → Result (Row × Reading) LexFault
row_at c = do
  line ← need_line_at c
  e0 ← entry_at line
  e1 ← entry_at e0.1
  e2 ← entry_at e1.1
  e3 ← entry_at e2.1
  end ← end_line_at e3.1
  Ok (e0.0 ∷ e1.0 ∷ e2.0 ∷ e3.0 ∷ [], end)

unfoldable pub rows_at : ℕ → Reading → Result (List Row × Reading) LexFault
rows_at zero c = Ok ([], c)
rows_at (suc n) c = do
  first ← row_at c
  others ← rows_at n first.1
  Ok (first.0 ∷ others.0, others.1)

-- the rows, if there is no error in them
abbrev pub checked : Option TableFault → List Row × Reading → Result (List Row × Reading) TextFault
checked None x = Ok x
checked (Some fault) x = Err (Table fault)

-- n rows from the end of this line on, which are a table
unfoldable pub counted_rows_at : ℕ → Reading → Result (List Row × Reading) TextFault
counted_rows_at n c = do
  end ← lexed (end_line_at c)
  rows ← lexed (rows_at n end)
  checked (table_fault rows.0) rows

-- what follows the word `tri`
unfoldable pub table_at : Reading → Result (List Row × Reading) TextFault
table_at c = do
  n ← lexed (number_at limit c)
  if nat_lt max_tets n.0 then Err (Table TooMany) else counted_rows_at n.0 n.1

-- what is written for a face
abbrev pub entry_text : Option Gluing → List ℕ
entry_text None = codes "-"
entry_text (Some g) = decimal g.tet ++ codes ":" ++ digits_of g.perm

-- what is written for a table
unfoldable pub table_text : List Row → List ℕ
table_text rows = codes "tri " ++ decimal (length rows) ++ (10 ∷ flat_map (λ (row : Row). spaced (map entry_text row)) rows)

-- a table in this form on the next lines
unfoldable pub tri_table_at : Reading → Result (List Row × Reading) TextFault
tri_table_at c = do
  line ← lexed (need_line_at c)
  named ← lexed (exactly_at (codes "tri") line)
  table_at named
