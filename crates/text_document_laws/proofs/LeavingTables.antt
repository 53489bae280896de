-- One table, two tables, and any number of tables: if what follows a table that was read is refused, the lines first
-- leave the grammar at the place of the error. A table that follows leaves the form of its text there.
use Rattle.std.proofs.Common.{◌≡◌, ◌≢◌, ℕ, suc, List, [], ◌∷◌, ◌++◌, length, Result, Ok, Err, refl, sym, ap, ◌∙◌, subst}
use Rattle.std.proofs.lemmas.List.{append-nil, append_assoc}
use Rattle.text_definitions.specs.declared.LexFault.{LexFault}
use Rattle.text_definitions.specs.Text.{Line, lines_of}
use Rattle.text_definitions.specs.Reading.{Reading, ◌>>=◌, begun, start_of}
use Rattle.table_definitions.specs.Table.{Row}
use Rattle.signature_definitions.specs.declared.InputFault.{InputFault}
use Rattle.signature_definitions.specs.SignatureText.{any_table_at}
use Rattle.signature_definitions.specs.Grammar.{AreTableLines}
use Rattle.text_document_definitions.specs.Grammar.{AreTwoTables, AreTables}
use Rattle.text_document_definitions.specs.Documents.{next_table_at, tables_on, tables_from, table_document, two_tables_document, tables_document}
use Rattle.text_document_definitions.specs.Symbols.{FirstLeavesAt}
use Rattle.text_document_definitions.specs.TextForms.{AreTableText, AreTablesText}
use Rattle.text_document_laws.specs.FaultLaws.{SomeTable, SomeTwoTables, SomeTableAndText, SomeTablesAndText, TableFaultsLeaveFirst, SecondTableFaultsLeaveFirst, TwoTablesFaultsLeaveFirst, TablesFaultsLeaveFirst}
use Rattle.text_document_laws.proofs.AnyTables.{next_of_begun}
use Rattle.text_document_laws.proofs.Documents.{end_at}
use Rattle.text_document_laws.proofs.Tables.{table_read, TableFound, table_found}
use Rattle.text_document_laws.proofs.LocalTables.{in_text}
use Rattle.text_document_laws.proofs.TextReaders.{Read, text_at, left_only, Copies}
use Rattle.text_document_laws.proofs.TextEnds.{closing, Any, closing_none, none_closing, well_closing, AtEnd, each_from, well_each, each_complete}
use Rattle.text_document_laws.proofs.TextWays.{ends_text}
use Rattle.text_document_laws.proofs.FirstFaults.{left_first}
use Rattle.text_document_laws.proofs.FirstTables.{closing_faults, one_text, one_complete, one_sound, well_one, one_faults, copy_tables, next_table, well_line_text, many_sound}
use Rattle.text_document_laws.proofs.BehindTables.{first_line, first_behind}
use Rattle.text_document_laws.proofs.Given.{Table, Tables}

-- no line may follow a table
abbrev NoLine : List Line → Type 0
NoLine lines = lines ≡ []

put_none : (table rest : List Line) (rows : List Row) → AreTableLines table rows → NoLine rest → SomeTable (table ++ rest)
put_none table rest rows t none = (rows, subst (λ (ls : List Line). AreTableLines ls rows) (sym (ap (λ (ls : List Line). table ++ ls) none ∙ append-nil table)) t)

taken_alone : (lines : List Line) → SomeTable lines → (rows : List Row) × (table : List Line) × (rest : List Line) × (lines ≡ table ++ rest) × AreTableLines table rows × NoLine rest
taken_alone lines h = (h.0, lines, [], sym (append-nil lines), h.1, refl)

table_first : (c : Reading) (rows : List Row) (d : Reading) (f : LexFault) → next_table_at c ≡ Ok (rows, d) → closing d ≡ Err f → FirstLeavesAt SomeTable c.input_end c.later f.place
table_first c rows d f table e =
    first_behind NoLine SomeTable put_none taken_alone c rows d f.place table
    (left_first closing Any NoLine (λ b h. ((tt, b), closing_none b h)) (λ o u next r a. (none_closing o u next r).0) d (table_read c rows d table).at_end f.place (well_closing d f e))

pub table_faults_leave_first : TableFaultsLeaveFirst
unfolding table_document
table_faults_leave_first bytes rows d f table e =
    table_first (start_of bytes) rows d f table
    (closing_faults rows d f (sym (ap (λ (r : Result Table InputFault). r >>= λ (t : Table). end_at t.1 >>= λ (last : Reading). Ok t.0) table) ∙ e))

-- a second table
abbrev second_on : List Row → Reading → Result (List Row × List Row) InputFault
second_on rows d = next_table_at d >>= λ (s : Table). end_at s.1 >>= λ (last : Reading). Ok (rows, s.0)

put_text : (table rest : List Line) (rows : List Row) → AreTableLines table rows → AreTableText rest → SomeTableAndText (table ++ rest)
put_text table rest rows t h = (table, rest, refl, (rows, t), h)

taken_text : (lines : List Line) → SomeTableAndText lines → (rows : List Row) × (table : List Line) × (rest : List Line) × (lines ≡ table ++ rest) × AreTableLines table rows × AreTableText rest
taken_text lines h = (let t : SomeTable h.0 = h.3 in (t.0, h.0, h.1, h.2, t.1, h.4))

pub second_table_faults_leave_first : SecondTableFaultsLeaveFirst
unfolding two_tables_document
second_table_faults_leave_first bytes rows d f table e =
    first_behind AreTableText SomeTableAndText put_text taken_text (start_of bytes) rows d f.place table
    (left_first one_text Any AreTableText one_complete one_sound d (table_read (start_of bytes) rows d table).at_end f.place
    (well_one d f (one_faults rows d f (sym (ap (λ (r : Result Table InputFault). r >>= λ (t : Table). second_on t.0 t.1) table) ∙ e))))

put_table : (table rest : List Line) (rows : List Row) → AreTableLines table rows → SomeTable rest → SomeTwoTables (table ++ rest)
put_table table rest rows t h = (rows, h.0, (table, rest, refl, t, h.1))

taken_table : (lines : List Line) → SomeTwoTables lines → (rows : List Row) × (table : List Line) × (rest : List Line) × (lines ≡ table ++ rest) × AreTableLines table rows × SomeTable rest
taken_table lines h = (let t : AreTwoTables lines h.0 h.1 = h.2 in (h.0, t.0, t.1, t.2, t.3, (h.1, t.4)))

pub two_tables_faults_leave_first : TwoTablesFaultsLeaveFirst
unfolding two_tables_document
two_tables_faults_leave_first bytes rows other d last f table second e =
    first_behind SomeTable SomeTwoTables put_table taken_table (start_of bytes) rows d f.place table
    (table_first d other last f second
    (closing_faults (rows, other) last f
    (sym (ap (λ (r : Result Table InputFault). r >>= λ (s : Table). end_at s.1 >>= λ (end : Reading). Ok (rows, s.0)) second)
    ∙ sym (ap (λ (r : Result Table InputFault). r >>= λ (t : Table). second_on t.0 t.1) table) ∙ e)))

-- tables one after another
put_more : (n : ℕ) (table rest : List Line) (rows : List Row) → AreTableLines table rows → SomeTablesAndText n rest → SomeTablesAndText (suc n) (table ++ rest)
put_more n table rest rows t h = (table, rest, refl, (rows, t), h)

taken_more : (n : ℕ) (lines : List Line) → SomeTablesAndText (suc n) lines → (rows : List Row) × (table : List Line) × (rest : List Line) × (lines ≡ table ++ rest) × AreTableLines table rows × SomeTablesAndText n rest
taken_more n lines h = (let t : SomeTable h.0 = h.3 in (t.0, h.0, h.1, h.2, t.1, h.4))

refused : (r : Result Tables InputFault) (s : Read) (f : LexFault) → Copies in_text left_only r s → r ≡ Err (in_text f) → s ≡ Err f
refused (Ok x) s f c e = absurd cc
refused (Err g) s f c e = (let same : g ≡ in_text f = cc in c f same)

none_counted : (c : Reading) (f : LexFault) → tables_from [] c ≢ Err (in_text f)
unfolding tables_from
none_counted c f e = absurd cc

behind : (m : Line) (most : List Line) (c : Reading) (rows : List Row) (d : Reading) (f : LexFault) → next_table_at c ≡ Ok (rows, d) → tables_from (m ∷ most) c ≡ Err (in_text f) → tables_from most d ≡ Err (in_text f)
unfolding tables_from
behind m most c rows d f table e =
    let l : (l : Line) × (ls : List Line) × (c.later ≡ l ∷ ls) = first_line c rows d table in
    let on : tables_on (l.0 ∷ l.1) c (λ x. tables_from most x) ≡ Err (in_text f) = sym (ap (λ (ls : List Line). tables_on ls c (λ x. tables_from most x)) l.2) ∙ e in
    let here : any_table_at (begun l.0 l.1 c) ≡ Ok (rows, d) = sym (next_of_begun c l.0 l.1 l.2) ∙ table in
    passed (tables_from most d) (sym (ap (λ (r : Result Table InputFault). r >>= λ (t : Table). tables_from most t.1 >>= λ (ts : Tables). Ok (t.0 ∷ ts.0, ts.1)) here) ∙ on)
  where
    passed : (r : Result Tables InputFault) → ◌≡◌ {A = Result Tables InputFault} (r >>= λ (ts : Tables). Ok (rows ∷ ts.0, ts.1)) (Err (in_text f)) → r ≡ Err (in_text f)
    passed (Ok x) e = absurd cc
    passed (Err g) e = (let same : g ≡ in_text f = cc in ap (λ (h : InputFault). Err h) same)

tables_first : (most : List Line) (c : Reading) → c.current.tokens ≡ [] → (tables : List (List Row)) (front back : List Line) → c.later ≡ front ++ back → AreTables front tables → (f : LexFault) → tables_from most c ≡ Err (in_text f)
    → FirstLeavesAt (SomeTablesAndText (length tables)) c.input_end c.later f.place
tables_first most c none [] front back split h f e =
    left_first (each_from text_at most) AtEnd AreTablesText (each_complete text_at AreTablesText next_table most) (many_sound most) c none f.place
    (well_each text_at ends_text.goes well_line_text most c f (refused (tables_from most c) (each_from text_at most c) f (copy_tables most c) e))
tables_first [] c none (rows ∷ tables) front back split h f e = absurd (none_counted c f e)
tables_first (m ∷ most) c none (rows ∷ tables) front back split h f e =
    let t : TableFound c rows (h.1 ++ back) = table_found c rows h.0 (h.1 ++ back) (split ∙ ap (λ (ls : List Line). ls ++ back) h.2 ∙ append_assoc h.0 h.1 back) h.3 in
    first_behind (SomeTablesAndText (length tables)) (SomeTablesAndText (suc (length tables))) (put_more (length tables)) (taken_more (length tables)) c rows t.left f.place t.read
    (tables_first most t.left t.at_end tables h.1 back t.later h.4 f (behind m most c rows t.left f t.read e))

pub tables_faults_leave_first : TablesFaultsLeaveFirst
unfolding tables_document
tables_faults_leave_first bytes front back tables f split h e = tables_first (lines_of bytes) (start_of bytes) refl tables front back split h f (passed (tables_from (lines_of bytes) (start_of bytes)) e)
  where
    passed : (r : Result Tables InputFault) → ◌≡◌ {A = Result (List (List Row)) InputFault} (r >>= λ (ts : Tables). Ok ts.0) (Err (in_text f)) → r ≡ Err (in_text f)
    passed (Ok x) e = absurd cc
    passed (Err g) e = (let same : g ≡ in_text f = cc in ap (λ (h : InputFault). Err h) same)
