-- Documents with tables in either form are read if and only if their lines are in the grammar.
use Rattle.std.proofs.Common.{◌≡◌, ℕ, List, [], ◌∷◌, ◌++◌, Result, Ok, Err, refl, sym, ap, ◌∙◌, subst}
use Rattle.std.specs.Prelude.{◌↔◌}
use Rattle.std.specs.List.{AllZip}
use Rattle.text_definitions.specs.Text.{Line, lines_of}
use Rattle.text_definitions.specs.declared.LexFault.{LexFault}
use Rattle.text_definitions.specs.Reading.{Reading, ◌>>=◌, begun, need_line_at, start_of}
use Rattle.text_definitions.proofs.Readers.{bind_ok}
use Rattle.table_definitions.specs.Table.{Row}
use Rattle.cone_text_definitions.specs.VectorText.{vector_at}
use Rattle.signature_definitions.specs.declared.InputFault.{InputFault}
use Rattle.signature_definitions.specs.Grammar.{AreTableLines}
use Rattle.surface_definitions.specs.Grammar.{IsVectorLine}
use Rattle.surface_definitions.specs.Laws.{ReadsVector}
use Rattle.text_document_definitions.specs.Documents.{worded, no_line_at, each_line_from, next_table_at, table_document, table_and_lines, vectors_document, vector_document, two_tables_document}
use Rattle.text_document_definitions.specs.Grammar.{AreTableAndLines, AreTwoTables}
use Rattle.table_definitions.proofs.ReadingLaws.{ok_parts}
use Rattle.table_definitions.proofs.LineLaws.{BeginsLine, line_begun, line_found}
use Rattle.surface_definitions.proofs.VectorLaws.{VectorRead, vector_read, vector_found}
use Rattle.text_document_laws.proofs.Blocks.{ReadsBlocks, ReadsLine, document_sound, document_complete, closed_complete, both, both_blocks, lines_read, lines_found}
use Rattle.text_document_laws.proofs.Tables.{worded_ok, worded_with, worded_end, table_blocks}
use Rattle.text_document_laws.proofs.Given.{Table}

abbrev pub end_at : Reading → Result Reading InputFault
end_at c = worded (no_line_at c)

-- one table
pub table_document_read : (bytes : List ℕ) (rows : List Row) → (table_document bytes ≡ Ok rows) ↔ AreTableLines (lines_of bytes) rows
unfolding table_document
table_document_read bytes rows =
    (λ e. document_sound end_at worded_end next_table_at AreTableLines table_blocks bytes rows e, λ h. document_complete end_at worded_end next_table_at AreTableLines table_blocks bytes rows h)

-- two tables
abbrev two_tables : Reading → Result ((List Row × List Row) × Reading) InputFault
two_tables c = both next_table_at next_table_at AreTableLines AreTableLines table_blocks table_blocks c

abbrev TwoTables : List Line → List Row × List Row → Type 0
TwoTables lines x = AreTwoTables lines x.0 x.1

abbrev pub two_tables_at : Reading → Result (List Row × List Row) InputFault
two_tables_at c = next_table_at c >>= λ (first : Table). next_table_at first.1 >>= λ (second : Table). end_at second.1 >>= λ (d : Reading). Ok (first.0, second.0)

two_tables_grouped : (c : Reading) → two_tables_at c ≡ two_tables c >>= λ (x : (List Row × List Row) × Reading). end_at x.1 >>= λ (d : Reading). Ok x.0
two_tables_grouped c = by_first (next_table_at c)
  where
    by_second : (first : Table) (r : Result Table InputFault)
        → (r >>= λ (second : Table). end_at second.1 >>= λ (d : Reading). Ok (first.0, second.0))
        ≡ (r >>= λ (z : Table). Ok ((first.0, z.0), z.1)) >>= λ (x : (List Row × List Row) × Reading). end_at x.1 >>= λ (d : Reading). Ok x.0
    by_second first (Ok y) = refl
    by_second first (Err f) = refl

    by_first : (r : Result Table InputFault)
        → (r >>= λ (first : Table). next_table_at first.1 >>= λ (second : Table). end_at second.1 >>= λ (d : Reading). Ok (first.0, second.0))
        ≡ (r >>= λ (y : Table). next_table_at y.1 >>= λ (z : Table). Ok ((y.0, z.0), z.1)) >>= λ (x : (List Row × List Row) × Reading). end_at x.1 >>= λ (d : Reading). Ok x.0
    by_first (Ok y) = by_second y (next_table_at y.1)
    by_first (Err f) = refl

two_blocks : ReadsBlocks two_tables TwoTables
two_blocks = both_blocks next_table_at next_table_at AreTableLines AreTableLines table_blocks table_blocks

pub two_tables_found : (c : Reading) (first second : List Row) → AreTwoTables c.later first second → two_tables_at c ≡ Ok (first, second)
two_tables_found c first second h = two_tables_grouped c ∙ closed_complete end_at worded_end two_tables TwoTables two_blocks c (first, second) h

pub two_tables_read : (bytes : List ℕ) (first second : List Row) → (two_tables_document bytes ≡ Ok (first, second)) ↔ AreTwoTables (lines_of bytes) first second
unfolding two_tables_document
two_tables_read bytes first second =
    (λ e. document_sound end_at worded_end two_tables TwoTables two_blocks bytes (first, second) (sym (two_tables_grouped (start_of bytes)) ∙ e), λ h. two_tables_found (start_of bytes) first second h)

-- a table and lines of one form to the end of the input
module _ {A : Type 0} (form : Reading → Result (A × Reading) LexFault) (Form : Line → A → Type 0) (reads : ReadsLine form Form) where
  abbrev pub after_table : Table → Result (List Row × List A) InputFault
  after_table t = worded (each_line_from form t.1.later t.1) >>= λ (xs : List A × Reading). Ok (t.0, xs.0)

  pub lines_document_read : (bytes : List ℕ) (rows : List Row) (xs : List A) → table_and_lines form bytes ≡ Ok (rows, xs) → AreTableAndLines Form (lines_of bytes) rows xs
  unfolding table_and_lines
  lines_document_read bytes rows xs e =
      let first : (t : Table) × (next_table_at (start_of bytes) ≡ Ok t) × (after_table t ≡ Ok (rows, xs)) = bind_ok (next_table_at (start_of bytes)) after_table (rows, xs) e in
      let second : (ys : List A × Reading) × (worded (each_line_from form (first.0).1.later (first.0).1) ≡ Ok ys) × (◌≡◌ {A = Result (List Row × List A) InputFault} (Ok ((first.0).0, ys.0)) (Ok (rows, xs))) =
      bind_ok (worded (each_line_from form (first.0).1.later (first.0).1)) (λ (ys : List A × Reading). Ok ((first.0).0, ys.0)) (rows, xs) first.2 in
      let parts : ((first.0).0 ≡ rows) × ((second.0).0 ≡ xs) = ok_parts ((first.0).0, (second.0).0) (rows, xs) second.2 in
      let table : (lines : List Line) × (lines_of bytes ≡ lines ++ (first.0).1.later) × AreTableLines lines (first.0).0 = table_blocks.sound (start_of bytes) (first.0).0 (first.0).1 first.1 in
      let others : AllZip Form (first.0).1.later (second.0).0 =
      lines_read form Form reads (first.0).1.later (first.0).1 (second.0).0 (second.0).1 (worded_ok (each_line_from form (first.0).1.later (first.0).1) second.0 second.1) in
      (table.0, (first.0).1.later, table.1, subst (λ (q : List Row). AreTableLines table.0 q) parts.0 table.2, subst (λ (ys : List A). AllZip Form (first.0).1.later ys) parts.1 others)

  abbrev pub lines_document_at : Reading → Result (List Row × List A) InputFault
  lines_document_at c = next_table_at c >>= after_table

  pub lines_found_at : (c : Reading) (rows : List Row) (xs : List A) → AreTableAndLines Form c.later rows xs → lines_document_at c ≡ Ok (rows, xs)
  lines_found_at c rows xs h =
      let table : (d : Reading) × (next_table_at c ≡ Ok (rows, d)) × (d.later ≡ h.1) = table_blocks.complete c rows h.0 h.1 h.2 h.3 in
      let found : (d : Reading) × (each_line_from form table.0.later table.0 ≡ Ok (xs, d)) = lines_found form Form reads table.0.later table.0 xs (subst (λ (ls : List Line). AllZip Form ls xs) (sym table.2) h.4) in
      ap (λ (r : Result Table InputFault). r >>= after_table) table.1
      ∙ ap (λ (r : Result (List A × Reading) InputFault). r >>= λ (ys : List A × Reading). Ok (rows, ys.0)) (worded_with (each_line_from form table.0.later table.0) (xs, found.0) found.1)

  pub lines_document_found : (bytes : List ℕ) (rows : List Row) (xs : List A) → AreTableAndLines Form (lines_of bytes) rows xs → table_and_lines form bytes ≡ Ok (rows, xs)
  unfolding table_and_lines
  lines_document_found bytes rows xs h = lines_found_at (start_of bytes) rows xs h

-- vectors
pub reads_vectors : ReadsLine vector_at IsVectorLine
reads_vectors = record {
  sound = λ c x d e. (let r : VectorRead c x d = vector_read c x d e in (r.line, r.later));
  complete = λ c x h. (let r : ReadsVector c x = vector_found c x h in (r.left, r.read, r.later));
}

pub vectors_document_read : (bytes : List ℕ) (rows : List Row) (xs : List (List ℕ)) → (vectors_document bytes ≡ Ok (rows, xs)) ↔ AreTableAndLines IsVectorLine (lines_of bytes) rows xs
vectors_document_read bytes rows xs =
    (lines_document_read vector_at IsVectorLine reads_vectors bytes rows xs, lines_document_found vector_at IsVectorLine reads_vectors bytes rows xs)

-- one vector on the next line
abbrev next_vector : Reading → Result (List ℕ × Reading) InputFault
next_vector c = worded (need_line_at c) >>= λ (x : Reading). worded (vector_at x)

abbrev IsOneVector : List Line → List ℕ → Type 0
IsOneVector lines xs = AllZip IsVectorLine lines (xs ∷ [])

vector_line : (c x : Reading) (xs : List ℕ) (d : Reading) → BeginsLine c x → VectorRead x xs d → (lines : List Line) × (c.later ≡ lines ++ d.later) × IsOneVector lines xs
vector_line c x xs d l r = (
  l.line ∷ [],
  l.lines ∙ ap (λ (ls : List Line). l.line ∷ ls) (ap (λ (y : Reading). y.later) (sym l.left) ∙ sym r.later),
  (subst (λ (y : Reading). IsVectorLine y.current xs) l.left r.line, tt),
)

next_vector_read : (c : Reading) (xs : List ℕ) (d : Reading) → next_vector c ≡ Ok (xs, d) → (lines : List Line) × (c.later ≡ lines ++ d.later) × IsOneVector lines xs
next_vector_read c xs d e =
    let first : (x : Reading) × (worded (need_line_at c) ≡ Ok x) × (worded (vector_at x) ≡ Ok (xs, d)) = bind_ok (worded (need_line_at c)) (λ (x : Reading). worded (vector_at x)) (xs, d) e in
    vector_line c first.0 xs d (line_begun c first.0 (worded_ok (need_line_at c) first.0 first.1)) (vector_read first.0 xs d (worded_ok (vector_at first.0) (xs, d) first.2))

next_vector_found : (c : Reading) (xs : List ℕ) (lines rest : List Line) → c.later ≡ lines ++ rest → IsOneVector lines xs → (d : Reading) × (next_vector c ≡ Ok (xs, d)) × (d.later ≡ rest)
next_vector_found c xs [] rest split h = absurd h
next_vector_found c xs (l ∷ m ∷ lines) rest split h = absurd h.1
next_vector_found c xs (l ∷ []) rest split h =
    let start : Reading = begun l rest c in
    let r : ReadsVector start xs = vector_found start xs h.0 in
    (r.left, ap (λ (q : Result Reading InputFault). q >>= λ (x : Reading). worded (vector_at x)) (worded_with (need_line_at c) start (line_found c l rest split)) ∙ worded_with (vector_at start) (xs, r.left) r.read, r.later)

vector_blocks : ReadsBlocks next_vector IsOneVector
vector_blocks = record { sound = next_vector_read; complete = next_vector_found }

abbrev table_and_vector : Reading → Result ((List Row × List ℕ) × Reading) InputFault
table_and_vector c = both next_table_at next_vector AreTableLines IsOneVector table_blocks vector_blocks c

abbrev TableAndVector : List Line → List Row × List ℕ → Type 0
TableAndVector lines x = AreTableAndLines IsVectorLine lines x.0 (x.1 ∷ [])

abbrev pub vector_document_at : Reading → Result (List Row × List ℕ) InputFault
vector_document_at c =
    next_table_at c >>= λ (t : Table). worded (need_line_at t.1) >>= λ (line : Reading). worded (vector_at line) >>= λ (v : List ℕ × Reading). end_at v.1 >>= λ (d : Reading). Ok (t.0, v.0)

vector_grouped : (c : Reading) → vector_document_at c ≡ table_and_vector c >>= λ (x : (List Row × List ℕ) × Reading). end_at x.1 >>= λ (d : Reading). Ok x.0
vector_grouped c = by_table (next_table_at c)
  where
    by_vector : (t : Table) (r : Result (List ℕ × Reading) InputFault)
        → (r >>= λ (v : List ℕ × Reading). end_at v.1 >>= λ (d : Reading). Ok (t.0, v.0))
        ≡ (r >>= λ (z : List ℕ × Reading). Ok ((t.0, z.0), z.1)) >>= λ (x : (List Row × List ℕ) × Reading). end_at x.1 >>= λ (d : Reading). Ok x.0
    by_vector t (Ok y) = refl
    by_vector t (Err f) = refl

    by_line : (t : Table) (r : Result Reading InputFault)
        → (r >>= λ (line : Reading). worded (vector_at line) >>= λ (v : List ℕ × Reading). end_at v.1 >>= λ (d : Reading). Ok (t.0, v.0))
        ≡ (r >>= (λ (x : Reading). worded (vector_at x)) >>= λ (z : List ℕ × Reading). Ok ((t.0, z.0), z.1)) >>= λ (x : (List Row × List ℕ) × Reading). end_at x.1 >>= λ (d : Reading). Ok x.0
    by_line t (Ok y) = by_vector t (worded (vector_at y))
    by_line t (Err f) = refl

    by_table : (r : Result Table InputFault)
        → (r >>= λ (t : Table). worded (need_line_at t.1) >>= λ (line : Reading). worded (vector_at line) >>= λ (v : List ℕ × Reading). end_at v.1 >>= λ (d : Reading). Ok (t.0, v.0))
        ≡ (r >>= λ (y : Table). next_vector y.1 >>= λ (z : List ℕ × Reading). Ok ((y.0, z.0), z.1)) >>= λ (x : (List Row × List ℕ) × Reading). end_at x.1 >>= λ (d : Reading). Ok x.0
    by_table (Ok y) = by_line y (worded (need_line_at y.1))
    by_table (Err f) = refl

table_and_vector_blocks : ReadsBlocks table_and_vector TableAndVector
table_and_vector_blocks = both_blocks next_table_at next_vector AreTableLines IsOneVector table_blocks vector_blocks

pub vector_document_found : (c : Reading) (rows : List Row) (xs : List ℕ) → AreTableAndLines IsVectorLine c.later rows (xs ∷ []) → vector_document_at c ≡ Ok (rows, xs)
vector_document_found c rows xs h = vector_grouped c ∙ closed_complete end_at worded_end table_and_vector TableAndVector table_and_vector_blocks c (rows, xs) h

pub vector_document_read : (bytes : List ℕ) (rows : List Row) (xs : List ℕ) → (vector_document bytes ≡ Ok (rows, xs)) ↔ AreTableAndLines IsVectorLine (lines_of bytes) rows (xs ∷ [])
unfolding vector_document
vector_document_read bytes rows xs =
    (λ e. document_sound end_at worded_end table_and_vector TableAndVector table_and_vector_blocks bytes (rows, xs) (sym (vector_grouped (start_of bytes)) ∙ e), λ h. vector_document_found (start_of bytes) rows xs h)
