-- A table and lines of one form: the first error of their text, and of lines after a table that was read.
use Rattle.std.proofs.Common.{◌≡◌, ◌≤◌, ◌+◌, ℕ, List, [], ◌∷◌, ◌++◌, length, Result, Ok, Err, refl, sym, ap, ◌∙◌, subst, arith}
use Rattle.std.specs.Prelude.{⊤}
use Rattle.std.specs.List.{AllZip, AllByRecursion}
use Rattle.std.proofs.lemmas.List.{length-append}
use Rattle.text_definitions.specs.declared.LexFault.{LexFault}
use Rattle.text_definitions.specs.Text.{Line, lines_of, end_of}
use Rattle.text_definitions.specs.Reading.{Reading, ◌>>=◌, begun, start_of}
use Rattle.text_definitions.proofs.Readers.{bind_ok}
use Rattle.table_definitions.specs.Table.{Row}
use Rattle.signature_definitions.specs.declared.InputFault.{InputFault}
use Rattle.signature_definitions.specs.Grammar.{AreTableLines}
use Rattle.text_document_definitions.specs.Grammar.{AreTableAndLines}
use Rattle.text_document_definitions.specs.Documents.{worded, each_line_from, next_table_at, table_and_lines}
use Rattle.text_document_definitions.specs.Symbols.{Symbol, FirstLeavesAt}
use Rattle.text_document_definitions.specs.TextForms.{AreTableText, AreTextAndLines}
use Rattle.text_document_laws.specs.FaultLaws.{SomeTableAndLines, LaterFaultsLeaveFirst}
use Rattle.text_document_laws.proofs.Blocks.{ReadsLine}
use Rattle.text_document_laws.proofs.Tables.{table_blocks, table_read}
use Rattle.text_document_laws.proofs.Local.{shows, Goes}
use Rattle.text_document_laws.proofs.LocalWords.{as_is}
use Rattle.text_document_laws.proofs.LocalTables.{in_text}
use Rattle.text_document_laws.proofs.Ways.{Then, Well, WellOpen, well_open}
use Rattle.text_document_laws.proofs.TextReaders.{Read, next_text, left_only, Copies, copy_known, copy_then, copy_same, copy_worded, FaultsAs, faults_bind, copy_next_table}
use Rattle.text_document_laws.proofs.TextWays.{opens_next_text}
use Rattle.text_document_laws.proofs.TextGrammar.{text_blocks}
use Rattle.text_document_laws.proofs.TextEnds.{AtEnd, nothing, each_from, each_none, each_more, alike_each_from, from_nothing, well_each, each_sound, each_complete}
use Rattle.text_document_laws.proofs.FirstFaults.{left_first, comes_first}
use Rattle.text_document_laws.proofs.BehindTables.{first_behind}
use Rattle.text_document_laws.proofs.HaveText.{forget}

-- a function of the value adds no error
pub faults_ok : {X Y Z E : Type 0} (lex : LexFault → E) (view : X → Y) (r : Result X E) (s : Result Y LexFault) (g : X → Z) → Copies lex view r s → FaultsAs lex (r >>= λ (x : X). Ok (g x)) s
faults_ok lex view (Ok x) s g c f e = absurd cc
faults_ok lex view (Err h) s g c f e = (let same : h ≡ lex f = cc in c f same)

pub left_of : (bytes : List ℕ) (rows : List Row) (d : Reading) → next_table_at (start_of bytes) ≡ Ok (rows, d) → length d.later ≤ length (lines_of bytes)
left_of bytes rows d e =
    let t : (lines : List Line) × (lines_of bytes ≡ lines ++ d.later) × AreTableLines lines rows = table_blocks.sound (start_of bytes) rows d e in
    let whole : length (lines_of bytes) ≡ length (t.0 ++ d.later) = ap (λ (ls : List Line). length ls) t.1 in
    let parts : length (t.0 ++ d.later) ≡ length t.0 + length d.later = length-append t.0 d.later in
    omega (arith, whole, parts)

module _ {A : Type 0} (form : Reading → Result (A × Reading) LexFault) (Form : Line → A → Type 0) (reads : ReadsLine form Form) where
  abbrev Value : Line → Type 0
  Value line = (x : A) × Form line x

  abbrev Lines : Type 0
  Lines = List A × Reading

  -- lines are read until none remains, at most one for each counted line
  copy_line : (m : Line) (most ls : List Line) (c : Reading) (l : Line) → c.later ≡ l ∷ ls → ((d : Reading) → d.later ≡ ls → Copies as_is left_only (each_line_from form ls d) (each_from form most d))
      → Copies as_is left_only (each_line_from form (l ∷ ls) c) (each_from form (m ∷ most) c)
  unfolding each_line_from
  copy_line m most ls c l split others =
      let b : Reading = begun l ls c in
      subst (λ (s : Read). Copies as_is left_only (each_line_from form (l ∷ ls) c) s) (sym (each_more form m most c l ls split))
      (copy_known as_is (λ (x : A × Reading). x) left_only (form b) (form b) (λ (x : A × Reading). each_line_from form ls x.1 >>= λ (xs : Lines). Ok (x.0 ∷ xs.0, xs.1)) (λ (x : A × Reading). each_from form most x.1) (copy_same (form b))
      (λ x p. copy_then as_is left_only left_only (each_line_from form ls x.1) (each_from form most x.1) (λ (xs : Lines). Ok (x.0 ∷ xs.0, xs.1)) (others x.1 (reads.sound b x.0 x.1 p).1) (λ xs. refl)))

  copy_each : (most ls : List Line) (c : Reading) → c.later ≡ ls → length ls ≤ length most → Copies as_is left_only (each_line_from form ls c) (each_from form most c)
  unfolding each_line_from
  copy_each most [] c split limited = each_none form most c split
  copy_each [] (l ∷ ls) c split limited = absurd (omega arith)
  copy_each (m ∷ most) (l ∷ ls) c split limited = copy_line m most ls c l split (λ d later. copy_each most ls d later (omega arith))

  abbrev read : List Line → Reading → Read
  read most c = next_text c >>= λ (u : ⊤ × Reading). each_from form most u.1

  behind_faults : (bytes : List ℕ) (rows : List Row) (d : Reading) → next_table_at (start_of bytes) ≡ Ok (rows, d)
      → FaultsAs {X = List Row × List A} in_text (worded (each_line_from form d.later d) >>= λ (xs : Lines). Ok (rows, xs.0)) (each_from form (lines_of bytes) d)
  behind_faults bytes rows d table =
      faults_ok in_text left_only (worded (each_line_from form d.later d)) (each_from form (lines_of bytes) d) (λ (xs : Lines). (rows, xs.0))
      (copy_worded left_only (each_line_from form d.later d) (each_from form (lines_of bytes) d) (copy_each (lines_of bytes) d.later d refl (left_of bytes rows d table)))

  lines_faults : (bytes : List ℕ) → FaultsAs in_text (table_and_lines form bytes) (read (lines_of bytes) (start_of bytes))
  unfolding table_and_lines
  lines_faults bytes =
      faults_bind in_text left_only (next_table_at (start_of bytes)) (next_text (start_of bytes)) (λ (t : List Row × Reading). worded (each_line_from form t.1.later t.1) >>= λ (xs : Lines). Ok (t.0, xs.0))
      (λ (u : ⊤ × Reading). each_from form (lines_of bytes) u.1) (copy_next_table (start_of bytes))
      (λ t p. behind_faults bytes t.0 t.1 p)

  -- the lines in the grammar
  abbrev Many : List Line → Type 0
  Many lines = AllByRecursion Value lines

  one_line : (b : Reading) (x : A) (d : Reading) → form b ≡ Ok (x, d) → Many d.later → Many (b.current ∷ b.later)
  one_line b x d e more = (let s : Form b.current x × (d.later ≡ b.later) = reads.sound b x d e in ((x, s.0), subst Many s.1 more))

  next_line : (b : Reading) → Many (b.current ∷ b.later) → (x : A) × (d : Reading) × (form b ≡ Ok (x, d)) × Many d.later
  next_line b h =
      let x : A = h.0.0 in
      let s : (d : Reading) × (form b ≡ Ok (x, d)) × (d.later ≡ b.later) = reads.complete b x h.0.1 in
      (x, s.0, s.1, subst Many (sym s.2) h.1)

  complete : (most : List Line) (c : Reading) → AreTextAndLines Value c.later → (y : ⊤ × Reading) × (read most c ≡ Ok y)
  complete most c h =
      let t : (d : Reading) × (next_text c ≡ Ok (tt, d)) × (d.later ≡ h.1) = text_blocks.complete c tt h.0 h.1 h.2 h.3 in
      let o : (y : ⊤ × Reading) × (each_from form most t.0 ≡ Ok y) = each_complete form Many next_line most t.0 (subst Many (sym t.2) h.4) in
      (o.0, ap (λ (r : Read). r >>= λ (u : ⊤ × Reading). each_from form most u.1) t.1 ∙ o.1)

  sound : (most : List Line) (o : Reading) (u : ⊤) (next : Reading) → read most o ≡ Ok (u, next) → AtEnd u (shows next) → AreTextAndLines Value o.later
  sound most o u next e a =
      let b : (x : ⊤ × Reading) × (next_text o ≡ Ok x) × (each_from form most x.1 ≡ Ok (u, next)) = bind_ok (next_text o) (λ (x : ⊤ × Reading). each_from form most x.1) (u, next) e in
      let t : (lines : List Line) × (o.later ≡ lines ++ (b.0).1.later) × AreTableText lines = text_blocks.sound o (b.0).0 (b.0).1 b.1 in
      (t.0, (b.0).1.later, t.1, t.2, each_sound form Many tt one_line most (b.0).1 u next b.2 (a next refl))

  -- a table and lines in the grammar
  remember : (lines : List Line) → Many lines → (xs : List A) × AllZip Form lines xs
  remember [] h = ([], tt)
  remember (l ∷ lines) h = (let more : (xs : List A) × AllZip Form lines xs = remember lines h.1 in (h.0.0 ∷ more.0, (h.0.1, more.1)))

  put : (table rest : List Line) (rows : List Row) → AreTableLines table rows → Many rest → SomeTableAndLines Form (table ++ rest)
  put table rest rows t h = (let more : (xs : List A) × AllZip Form rest xs = remember rest h in (rows, more.0, (table, rest, refl, t, more.1)))

  taken : (lines : List Line) → SomeTableAndLines Form lines → (rows : List Row) × (table : List Line) × (rest : List Line) × (lines ≡ table ++ rest) × AreTableLines table rows × Many rest
  taken lines h = (let t : AreTableAndLines Form lines h.0 h.1 = h.2 in (h.0, t.0, t.1, t.2, t.3, forget Form t.1 h.1 t.4))

  module _ (goes : (c : Reading) → Goes form c) (well : (Aim : A → List Symbol → Type 0) (k : Reading) → k.current.tokens ≡ [] → ((x : A) → Aim x (shows k)) → (c : Reading) → Well as_is form Aim c) where
    well_read : (most : List Line) (c : Reading) → WellOpen as_is (read most) AtEnd c
    well_read most c =
        well_open as_is next_text (λ u. each_from form most) AtEnd (λ u. alike_each_from form goes most) c (opens_next_text.goes c)
        (opens_next_text.well (Then (λ u. each_from form most) AtEnd) nothing refl (λ u. from_nothing form goes most) c) (λ u d e. well_each form goes well most d)

    pub lines_faults_stand_first : (bytes : List ℕ) (f : LexFault) → table_and_lines form bytes ≡ Err (in_text f) → FirstLeavesAt (λ (lines : List Line). AreTextAndLines Value lines) (end_of bytes) (lines_of bytes) f.place
    lines_faults_stand_first bytes f e =
        comes_first (read (lines_of bytes)) AtEnd (λ (lines : List Line). AreTextAndLines Value lines) (complete (lines_of bytes)) (sound (lines_of bytes)) bytes f.place
        (well_read (lines_of bytes) (start_of bytes) f (lines_faults bytes f e))

    -- after a table that was read
    rest_first : (most : List Line) (d : Reading) → d.current.tokens ≡ [] → (f : LexFault) → each_from form most d ≡ Err f → FirstLeavesAt Many d.input_end d.later f.place
    rest_first most d none f e =
        left_first (each_from form most) AtEnd Many (λ c h. each_complete form Many next_line most c h) (λ o u next r a. each_sound form Many tt one_line most o u next r (a next refl)) d none f.place
        (well_each form goes well most d f e)

    pub lines_faults_leave_first : LaterFaultsLeaveFirst (table_and_lines form) (SomeTableAndLines Form)
    unfolding table_and_lines
    lines_faults_leave_first bytes rows d f table e =
        first_behind Many (SomeTableAndLines Form) put taken (start_of bytes) rows d f.place table
        (rest_first (lines_of bytes) d (table_read (start_of bytes) rows d table).at_end f
        (behind_faults bytes rows d table f (sym (ap (λ (r : Result (List Row × Reading) InputFault). r >>= λ (t : List Row × Reading). worded (each_line_from form t.1.later t.1) >>= λ (xs : Lines). Ok (t.0, xs.0)) table) ∙ e)))
