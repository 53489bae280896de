-- Lines of a table are read as this table.
use Rattle.std.proofs.Common.{◌≡◌, ℕ, suc, ◌^◌, ◌<◌, ◌≤◌, Bool, true, false, List, [], ◌∷◌, ◌++◌, length, Option, Some, None, Result, Ok, Err, refl, sym, ap, ◌∙◌, subst, arith}
use Rattle.std.specs.Prelude.{nat_lt, if◌then◌else◌, codes}
use Rattle.std.specs.List.{AllZip}
use Rattle.std.proofs.lemmas.Bool.{lt-ltb, le-ltb}
use Rattle.table_definitions.specs.Lists.{same_list}
use Rattle.table_definitions.specs.declared.TableFault.{TableFault}
use Rattle.table_definitions.specs.declared.TableFault.TheVariants.{TooMany}
use Rattle.table_definitions.specs.declared.TextFault.{TextFault}
use Rattle.table_definitions.specs.declared.TextFault.TheVariants.{Table}
use Rattle.table_definitions.specs.Table.{max_tets, Gluing, Row, IsTable, table_fault}
use Rattle.text_definitions.specs.Text.{Token, word, Line, decimal_value}
use Rattle.text_definitions.specs.declared.LexKind.TheVariants.{NumberTooWide}
use Rattle.text_definitions.specs.declared.LexFault.{LexFault}
use Rattle.text_definitions.specs.Reading.{word_at, Reading, ◌>>=◌, begun, need_line_at, end_line_at, number_at, exactly_at, word_fault}
use Rattle.text_definitions.specs.Written.{limit}
use Rattle.table_definitions.specs.TableText.{lexed, gluing_of, gluing_entry, entry_at, row_at, rows_at, checked, counted_rows_at, table_at, tri_table_at}
use Rattle.table_definitions.specs.Grammar.{AreWords, IsEntry, IsRowLine, AreTriLines}
use Rattle.table_definitions.specs.Laws.{ReadsTriTable}
use Rattle.table_definitions.proofs.ListLaws.{same_list_from}
use Rattle.table_definitions.proofs.ReadingLaws.{with_tokens, behind, one_number, exactly_found}
use Rattle.table_definitions.proofs.EntryLaws.{gluing_of-word}
use Rattle.table_definitions.proofs.TableLaws.{table_fault-IsTable}
use Rattle.table_definitions.proofs.ListFacts.{same_list-true}
use Rattle.table_definitions.proofs.LineLaws.{with_later, end_found, FirstWord, first_word, no_words}
use Rattle.table_definitions.proofs.TableReadingLaws.{Entry, after_line}

-- the word of the first entry, and those of the others
record FirstEntry (ws : List (List ℕ)) (o : Option Gluing) (row : Row) : Type 0 where
  w : List ℕ
  rest : List (List ℕ)
  words : ws ≡ w ∷ rest
  entry : IsEntry w o
  others : AllZip IsEntry rest row

first_entry : (ws : List (List ℕ)) (o : Option Gluing) (row : Row) → AllZip IsEntry ws (o ∷ row) → FirstEntry ws o row
first_entry [] o row z = absurd z
first_entry (w ∷ ws) o row z = record { w = w; rest = ws; words = refl; entry = z.0; others = z.1 }

no_entries : (ws : List (List ℕ)) → AllZip IsEntry ws [] → ws ≡ []
no_entries [] z = refl
no_entries (w ∷ ws) z = absurd z

-- the word of an entry is read as this entry
pub no_dash : (w : List ℕ) (g : Gluing) → gluing_of w ≡ Some g → same_list w (codes "-") ≡ false
no_dash w g e = by_test (same_list w (codes "-")) refl
  where
    dash_is_none : gluing_of (codes "-") ≡ None
    dash_is_none = refl

    by_test : (b : Bool) → same_list w (codes "-") ≡ b → b ≡ false
    by_test false t = refl
    by_test true t = let same : w ≡ codes "-" = same_list-true w (codes "-") t in let both : gluing_of w ≡ None = ap gluing_of same ∙ dash_is_none in absurd cc

abbrev entry_if : Bool → List ℕ → Reading → Result (Option Gluing × Reading) LexFault
entry_if b w c = if b then Ok (None, c) else gluing_entry (gluing_of w) c

gluing_found : (g : Gluing) (c : Reading) → g.tet < 2 ^ 32 → gluing_entry (Some g) c ≡ Ok (Some g, c)
gluing_found g c h = ap (λ (b : Bool). if◌then◌else◌ {A = Result (Option Gluing × Reading) LexFault} b (Ok (Some g, c)) (Err (word_fault c NumberTooWide))) (lt-ltb g.tet (2 ^ 32) h)

entry_word : (w : List ℕ) (o : Option Gluing) (c : Reading) → IsEntry w o → entry_if (same_list w (codes "-")) w c ≡ Ok (o, c)
entry_word w None c e = ap (λ (b : Bool). entry_if b w c) (same_list_from w (codes "-") e)
entry_word w (Some g) c e =
    let given : (gluing_of w ≡ Some g) × (g.tet < 2 ^ 32) = gluing_of-word w g e in
    ap (λ (b : Bool). entry_if b w c) (no_dash w g given.0) ∙ ap (λ (q : Option Gluing). gluing_entry q c) given.0 ∙ gluing_found g c given.1

entry_found : (column : ℕ) (w : List ℕ) (o : Option Gluing) (ts : List Token) (c : Reading) → IsEntry w o → entry_at (with_tokens (word column w ∷ ts) c) ≡ Ok (o, with_tokens ts (behind column c))
unfolding entry_at word_at
entry_found column w o ts c e = entry_word w o (with_tokens ts (behind column c)) e

-- an entry is read if the words begin with its word
record EntryFound (ts : List Token) (ws : List (List ℕ)) (row : Row) (c : Reading) (o : Option Gluing) : Type 0 where
  column : ℕ
  rest : List Token
  rest_words : List (List ℕ)
  read : entry_at (with_tokens ts c) ≡ Ok (o, with_tokens rest (behind column c))
  words : AreWords rest rest_words
  entries : AllZip IsEntry rest_words row

entry_in : (ts : List Token) (ws : List (List ℕ)) (o : Option Gluing) (row : Row) (c : Reading) → AreWords ts ws → AllZip IsEntry ws (o ∷ row) → EntryFound ts ws row c o
entry_in ts ws o row c a z =
    let e : FirstEntry ws o row = first_entry ws o row z in
    let f : FirstWord ts e.w e.rest = first_word ts e.w e.rest (subst (λ (us : List (List ℕ)). AreWords ts us) e.words a) in
    record {
      column = f.column;
      rest = f.rest;
      rest_words = e.rest;
      read = ap (λ (us : List Token). entry_at (with_tokens us c)) f.tokens ∙ entry_found f.column e.w o f.rest c e.entry;
      words = f.others;
      entries = e.others;
    }

record RowFound (c : Reading) (row : Row) (ls : List Line) : Type 0 where
  left : Reading
  read : row_at c ≡ Ok (row, left)
  later : left.later ≡ ls
  at_end : left.current.tokens ≡ []

four_found : (c : Reading) (o0 o1 o2 o3 : Option Gluing) (d0 d1 d2 d3 d : Reading) → entry_at c ≡ Ok (o0, d0) → entry_at d0 ≡ Ok (o1, d1) → entry_at d1 ≡ Ok (o2, d2) → entry_at d2 ≡ Ok (o3, d3) → end_line_at d3 ≡ Ok d
    → after_line c ≡ Ok (o0 ∷ o1 ∷ o2 ∷ o3 ∷ [], d)
four_found c o0 o1 o2 o3 d0 d1 d2 d3 d r0 r1 r2 r3 r =
    ap (λ (r : Result Entry LexFault). r >>= λ (e0 : Entry). entry_at e0.1 >>= λ (e1 : Entry). entry_at e1.1 >>= λ (e2 : Entry). entry_at e2.1 >>= λ (e3 : Entry). end_line_at e3.1 >>= λ (end : Reading). Ok (e0.0 ∷ e1.0 ∷ e2.0 ∷ e3.0 ∷ [], end)) r0
    ∙ ap (λ (r : Result Entry LexFault). r >>= λ (e1 : Entry). entry_at e1.1 >>= λ (e2 : Entry). entry_at e2.1 >>= λ (e3 : Entry). end_line_at e3.1 >>= λ (end : Reading). Ok (o0 ∷ e1.0 ∷ e2.0 ∷ e3.0 ∷ [], end)) r1
    ∙ ap (λ (r : Result Entry LexFault). r >>= λ (e2 : Entry). entry_at e2.1 >>= λ (e3 : Entry). end_line_at e3.1 >>= λ (end : Reading). Ok (o0 ∷ o1 ∷ e2.0 ∷ e3.0 ∷ [], end)) r2
    ∙ ap (λ (r : Result Entry LexFault). r >>= λ (e3 : Entry). end_line_at e3.1 >>= λ (end : Reading). Ok (o0 ∷ o1 ∷ o2 ∷ e3.0 ∷ [], end)) r3
    ∙ ap (λ (r : Result Reading LexFault). r >>= λ (end : Reading). Ok (o0 ∷ o1 ∷ o2 ∷ o3 ∷ [], end)) r

-- the four entries and the end of a line, one after another
entries_found : (c c1 c2 c3 c4 : Reading) (ts r0 r1 r2 r3 : List Token) (o0 o1 o2 o3 : Option Gluing) → entry_at (with_tokens ts c) ≡ Ok (o0, with_tokens r0 c1) → entry_at (with_tokens r0 c1) ≡ Ok (o1, with_tokens r1 c2)
    → entry_at (with_tokens r1 c2) ≡ Ok (o2, with_tokens r2 c3) → entry_at (with_tokens r2 c3) ≡ Ok (o3, with_tokens r3 c4) → r3 ≡ [] → c4.later ≡ c.later
    → (d : Reading) × (after_line (with_tokens ts c) ≡ Ok (o0 ∷ o1 ∷ o2 ∷ o3 ∷ [], d)) × (d.later ≡ c.later) × (d.current.tokens ≡ [])
entries_found c c1 c2 c3 c4 ts r0 r1 r2 r3 o0 o1 o2 o3 e0 e1 e2 e3 none later = (
  with_tokens [] c4,
  four_found (with_tokens ts c) o0 o1 o2 o3 (with_tokens r0 c1) (with_tokens r1 c2) (with_tokens r2 c3) (with_tokens r3 c4) (with_tokens [] c4) e0 e1 e2 e3 (end_found r3 c4 none),
  later,
  refl,
)

abbrev LineFound : List Token → Option Gluing → Option Gluing → Option Gluing → Option Gluing → Reading → Type 0
LineFound ts o0 o1 o2 o3 c = (d : Reading) × (after_line (with_tokens ts c) ≡ Ok (o0 ∷ o1 ∷ o2 ∷ o3 ∷ [], d)) × (d.later ≡ c.later) × (d.current.tokens ≡ [])

line_found : (ts : List Token) (ws : List (List ℕ)) (o0 o1 o2 o3 : Option Gluing) (c : Reading) → AreWords ts ws → AllZip IsEntry ws (o0 ∷ o1 ∷ o2 ∷ o3 ∷ [])
    → (d : Reading) × (after_line (with_tokens ts c) ≡ Ok (o0 ∷ o1 ∷ o2 ∷ o3 ∷ [], d)) × (d.later ≡ c.later) × (d.current.tokens ≡ [])
line_found ts ws o0 o1 o2 o3 c a z = from_first (entry_in ts ws o0 (o1 ∷ o2 ∷ o3 ∷ []) c a z)
  where
    from_fourth : (f0 : EntryFound ts ws (o1 ∷ o2 ∷ o3 ∷ []) c o0) (f1 : EntryFound f0.rest f0.rest_words (o2 ∷ o3 ∷ []) (behind f0.column c) o1)
        (f2 : EntryFound f1.rest f1.rest_words (o3 ∷ []) (behind f1.column (behind f0.column c)) o2) → EntryFound f2.rest f2.rest_words [] (behind f2.column (behind f1.column (behind f0.column c))) o3 → LineFound ts o0 o1 o2 o3 c
    from_fourth f0 f1 f2 f3 =
        entries_found c (behind f0.column c) (behind f1.column (behind f0.column c)) (behind f2.column (behind f1.column (behind f0.column c))) (behind f3.column (behind f2.column (behind f1.column (behind f0.column c))))
        ts f0.rest f1.rest f2.rest f3.rest o0 o1 o2 o3 f0.read f1.read f2.read f3.read
        (no_words f3.rest (subst (λ (us : List (List ℕ)). AreWords f3.rest us) (no_entries f3.rest_words f3.entries) f3.words)) (refl {a = c.later})

    from_third : (f0 : EntryFound ts ws (o1 ∷ o2 ∷ o3 ∷ []) c o0) (f1 : EntryFound f0.rest f0.rest_words (o2 ∷ o3 ∷ []) (behind f0.column c) o1)
        → EntryFound f1.rest f1.rest_words (o3 ∷ []) (behind f1.column (behind f0.column c)) o2 → LineFound ts o0 o1 o2 o3 c
    from_third f0 f1 f2 = from_fourth f0 f1 f2 (entry_in f2.rest f2.rest_words o3 [] (behind f2.column (behind f1.column (behind f0.column c))) f2.words f2.entries)

    from_second : (f0 : EntryFound ts ws (o1 ∷ o2 ∷ o3 ∷ []) c o0) → EntryFound f0.rest f0.rest_words (o2 ∷ o3 ∷ []) (behind f0.column c) o1 → LineFound ts o0 o1 o2 o3 c
    from_second f0 f1 = from_third f0 f1 (entry_in f1.rest f1.rest_words o2 (o3 ∷ []) (behind f1.column (behind f0.column c)) f1.words f1.entries)

    from_first : EntryFound ts ws (o1 ∷ o2 ∷ o3 ∷ []) c o0 → LineFound ts o0 o1 o2 o3 c
    from_first f0 = from_second f0 (entry_in f0.rest f0.rest_words o1 (o2 ∷ o3 ∷ []) (behind f0.column c) f0.words f0.entries)

row_in : (l : Line) (ls : List Line) (ws : List (List ℕ)) (row : Row) (c : Reading) → AreWords l.tokens ws → AllZip IsEntry ws row → length row ≡ 4 → RowFound (with_later (l ∷ ls) c) row ls
unfolding row_at need_line_at
row_in l ls ws [] c a z f = absurd (omega arith)
row_in l ls ws (o0 ∷ []) c a z f = absurd (omega arith)
row_in l ls ws (o0 ∷ o1 ∷ []) c a z f = absurd (omega arith)
row_in l ls ws (o0 ∷ o1 ∷ o2 ∷ []) c a z f = absurd (omega arith)
row_in l ls ws (o0 ∷ o1 ∷ o2 ∷ o3 ∷ []) c a z f =
    let r : (d : Reading) × (after_line (begun l ls c) ≡ Ok (o0 ∷ o1 ∷ o2 ∷ o3 ∷ [], d)) × (d.later ≡ ls) × (d.current.tokens ≡ []) = line_found l.tokens ws o0 o1 o2 o3 (begun l ls c) a z in
    record { left = r.0; read = r.1; later = r.2; at_end = r.3 }
row_in l ls ws (o0 ∷ o1 ∷ o2 ∷ o3 ∷ o4 ∷ row) c a z f = absurd (omega arith)

-- lines of rows are read as these rows
record RowsFound (c : Reading) (n : ℕ) (rows : List Row) (rest : List Line) : Type 0 where
  left : Reading
  read : rows_at n c ≡ Ok (rows, left)
  later : left.later ≡ rest
  at_end : c.current.tokens ≡ [] → left.current.tokens ≡ []

rows_more : (n : ℕ) (c : Reading) (row : Row) (d : Reading) (rows : List Row) (rest : List Line) → row_at c ≡ Ok (row, d) → d.current.tokens ≡ [] → RowsFound d n rows rest → RowsFound c (suc n) (row ∷ rows) rest
unfolding rows_at
rows_more n c row d rows rest r ended more = record {
  left = more.left;
  read =
      ap (λ (r : Result (Row × Reading) LexFault). r >>= λ (x : Row × Reading). rows_at n x.1 >>= λ (y : List Row × Reading). Ok (x.0 ∷ y.0, y.1)) r
      ∙ ap (λ (r : Result (List Row × Reading) LexFault). r >>= λ (y : List Row × Reading). Ok (row ∷ y.0, y.1)) more.read;
  later = more.later;
  at_end = λ h. more.at_end ended;
}

rows_found : (lines rest : List Line) (rows : List Row) (c : Reading) → AllZip IsRowLine lines rows → RowsFound (with_later (lines ++ rest) c) (length rows) rows rest
unfolding rows_at
rows_found [] rest [] c z = record { left = with_later rest c; read = refl; later = refl; at_end = λ h. h }
rows_found [] rest (row ∷ rows) c z = absurd z
rows_found (l ∷ lines) rest [] c z = absurd z
rows_found (l ∷ lines) rest (row ∷ rows) c z =
    let one : RowFound (with_later (l ∷ (lines ++ rest)) c) row (lines ++ rest) = row_in l (lines ++ rest) z.0.ws row c z.0.are_words z.0.entries z.0.four_faces in
    let more : RowsFound (with_later (lines ++ rest) one.left) (length rows) rows rest = rows_found lines rest rows one.left z.1 in
    rows_more (length rows) (with_later (l ∷ (lines ++ rest)) c) row one.left rows rest one.read one.at_end
    (subst (λ (ls : List Line). RowsFound (with_later ls one.left) (length rows) rows rest) (sym one.later) more)

-- what follows the word `tri` is read if it is the number of rows and their lines follow
pub lexed_with : {A : Type 0} (r : Result A LexFault) (x : A) → r ≡ Ok x → lexed r ≡ Ok x
lexed_with {A} r x e = ap (λ (q : Result A LexFault). lexed q) e

checked_with : (o : Option TableFault) (x : List Row × Reading) → o ≡ None → checked o x ≡ Ok x
checked_with o x e = ap (λ (p : Option TableFault). checked p x) e

counted_found : (c : Reading) (n : ℕ) (rows : List Row) (rest : List Line) → c.current.tokens ≡ [] → IsTable rows → RowsFound c n rows rest → (d : Reading) × (counted_rows_at n c ≡ Ok (rows, d)) × (d.later ≡ rest) × (d.current.tokens ≡ [])
unfolding counted_rows_at end_line_at
counted_found c n rows rest ended table r =
    let first : lexed (end_line_at c) ≡ Ok c = lexed_with (end_line_at c) c (ends c.current.tokens ended) in
    let second : lexed (rows_at n c) ≡ Ok (rows, r.left) = lexed_with (rows_at n c) (rows, r.left) r.read in (
      r.left,
      ap (λ (q : Result Reading TextFault). q >>= λ (x : Reading). lexed (rows_at n x) >>= λ (y : List Row × Reading). checked (table_fault y.0) y) first
          ∙ ap (λ (q : Result (List Row × Reading) TextFault). q >>= λ (y : List Row × Reading). checked (table_fault y.0) y) second
          ∙ checked_with (table_fault rows) (rows, r.left) (table_fault-IsTable rows table),
      r.later,
      r.at_end ended,
    )
  where
    ends : (ts : List Token) → ts ≡ [] → end_line_at (with_tokens ts c) ≡ Ok (with_tokens ts c)
    ends [] e = refl
    ends (t ∷ ts) e = absurd cc

table_found : (column : ℕ) (w : List ℕ) (lines rest : List Line) (rows : List Row) (c : Reading) → decimal_value w ≡ Some (length rows) → AllZip IsRowLine lines rows → IsTable rows → c.later ≡ lines ++ rest
    → (d : Reading) × (table_at (with_tokens (word column w ∷ []) c) ≡ Ok (rows, d)) × (d.later ≡ rest) × (d.current.tokens ≡ [])
unfolding table_at
table_found column w lines rest rows c value z table split =
    let limited : length rows ≤ max_tets = table.limited in
    let small : length rows ≤ limit = omega arith in
    let number : number_at limit (with_tokens (word column w ∷ []) c) ≡ Ok (length rows, with_tokens [] (behind column c)) = one_number limit column w (length rows) [] c (record { value = value; up_to = small }) in
    let begin : Reading = with_tokens [] (behind column c) in
    let found : RowsFound begin (length rows) rows rest = subst (λ (ls : List Line). RowsFound (with_later ls begin) (length rows) rows rest) (sym split) (rows_found lines rest rows begin z) in
    let counted : (d : Reading) × (counted_rows_at (length rows) begin ≡ Ok (rows, d)) × (d.later ≡ rest) × (d.current.tokens ≡ []) = counted_found begin (length rows) rows rest refl table found in (
      counted.0,
      ap (λ (q : Result (ℕ × Reading) TextFault). q >>= λ (x : ℕ × Reading). if nat_lt max_tets x.0 then Err (Table TooMany) else counted_rows_at x.0 x.1) (lexed_with (number_at limit (with_tokens (word column w ∷ []) c)) (length rows, begin) number)
          ∙ ap (λ (b : Bool). if◌then◌else◌ {A = Result (List Row × Reading) TextFault} b (Err (Table TooMany)) (counted_rows_at (length rows) begin)) (le-ltb max_tets (length rows) limited)
          ∙ counted.1,
      counted.2,
      counted.3,
    )

-- the line `tri N`
tri_line_found : (l : Line) (ls lines rest : List Line) (w : List ℕ) (rows : List Row) (c : Reading) → AreWords l.tokens (codes "tri" ∷ w ∷ []) → decimal_value w ≡ Some (length rows) → AllZip IsRowLine lines rows → IsTable rows
    → ls ≡ lines ++ rest → ReadsTriTable (with_later (l ∷ ls) c) rows rest
unfolding tri_table_at need_line_at
tri_line_found l ls lines rest w rows c a value z table split =
    let f : FirstWord l.tokens (codes "tri") (w ∷ []) = first_word l.tokens (codes "tri") (w ∷ []) a in
    let s : FirstWord f.rest w [] = first_word f.rest w [] f.others in
    let begin : Reading = begun l ls c in
    let one : f.rest ≡ word s.column w ∷ [] = s.tokens ∙ ap (λ (us : List Token). word s.column w ∷ us) (no_words s.rest s.others) in
    let named : exactly_at (codes "tri") begin ≡ Ok (with_tokens f.rest (behind f.column begin)) =
    ap (λ (us : List Token). exactly_at (codes "tri") (with_tokens us begin)) f.tokens ∙ exactly_found f.column (codes "tri") (codes "tri") f.rest begin refl in
    let t : (d : Reading) × (table_at (with_tokens (word s.column w ∷ []) (behind f.column begin)) ≡ Ok (rows, d)) × (d.later ≡ rest) × (d.current.tokens ≡ []) =
    table_found s.column w lines rest rows (behind f.column begin) value z table split in
    record {
      left = t.0;
      read =
          ap (λ (q : Result Reading TextFault). q >>= λ (x : Reading). table_at x) (lexed_with (exactly_at (codes "tri") begin) (with_tokens f.rest (behind f.column begin)) named)
          ∙ ap (λ (us : List Token). table_at (with_tokens us (behind f.column begin))) one ∙ t.1;
      later = t.2;
      at_end = t.3;
    }

tri_found : (lines rest : List Line) (rows : List Row) (c : Reading) → AreTriLines lines rows → ReadsTriTable (with_later (lines ++ rest) c) rows rest
tri_found [] rest rows c t = absurd t
tri_found (l ∷ lines) rest rows c t = tri_line_found l (lines ++ rest) lines rest t.0 rows c t.1 t.2 t.3 t.4 refl

pub tri_table_found : (c : Reading) (rows : List Row) (rest lines : List Line) → c.later ≡ lines ++ rest → AreTriLines lines rows → ReadsTriTable c rows rest
tri_table_found c rows rest lines split t = subst (λ (ls : List Line). ReadsTriTable (with_later ls c) rows rest) (sym split) (tri_found lines rest rows c t)
