-- Lines are read as a table if and only if they are one.
use Rattle.std.proofs.Common.{◌≡◌, ℕ, zero, suc, ◌^◌, ◌<◌, Bool, true, false, List, [], ◌∷◌, ◌++◌, length, get_or, Option, Some, None, Result, Ok, Err, refl, sym, ap, ◌∙◌, subst, arith}
use Rattle.std.specs.Prelude.{nat_lt, if◌then◌else◌, codes}
use Rattle.std.specs.List.{AllZip}
use Rattle.std.proofs.lemmas.Bool.{ltb-true}
use Rattle.table_definitions.specs.Lists.{same_list}
use Rattle.table_definitions.specs.Permutation.{IsPermutationOfFour}
use Rattle.table_definitions.specs.declared.TableFault.{TableFault}
use Rattle.table_definitions.specs.declared.TableFault.TheVariants.{TooMany}
use Rattle.table_definitions.specs.declared.TextFault.{TextFault}
use Rattle.table_definitions.specs.declared.TextFault.TheVariants.{Table}
use Rattle.table_definitions.specs.Table.{max_tets, Gluing, Row, IsTable, table_fault}
use Rattle.text_definitions.specs.Text.{Token, word, Line, decimal_value}
use Rattle.text_definitions.specs.declared.LexKind.TheVariants.{NumberTooWide}
use Rattle.text_definitions.specs.declared.LexFault.{LexFault}
use Rattle.text_definitions.specs.Reading.{Reading, ◌>>=◌, need_line_at, word_at, end_line_at, number_at, exactly_at, word_fault}
use Rattle.text_definitions.specs.Written.{limit}
use Rattle.text_definitions.proofs.Readers.{bind_ok}
use Rattle.table_definitions.specs.TableText.{lexed, gluing_of, gluing_entry, entry_at, row_at, rows_at, checked, counted_rows_at, table_at, tri_table_at}
use Rattle.table_definitions.specs.Grammar.{AreWords, IsEntry, IsRowLine, AreTriLines}
use Rattle.table_definitions.proofs.ReadingLaws.{ok_parts, with_tokens, behind, TakesWord, word_taken, TakesNumber, number_read, exactly_read}
use Rattle.table_definitions.proofs.EntryLaws.{gluing_of-some}
use Rattle.table_definitions.proofs.TableLaws.{IsTable-no_fault}
use Rattle.table_definitions.proofs.ListFacts.{same_list-true}
use Rattle.table_definitions.proofs.LineLaws.{BeginsLine, line_begun, line_ended}

abbrev entry_with : List ℕ → Reading → Result (Option Gluing × Reading) LexFault
entry_with w c = if same_list w (codes "-") then Ok (None, c) else gluing_entry (gluing_of w) c

gluing_taken : (w : List ℕ) (q : Option Gluing) (c : Reading) (o : Option Gluing) (d : Reading) → gluing_of w ≡ q → gluing_entry q c ≡ Ok (o, d) → IsEntry w o × (d ≡ c)
gluing_taken w None c o d is e = absurd cc
gluing_taken w (Some g) c o d is e = by_test (nat_lt g.tet (2 ^ 32)) refl e
  where
    by_test : (b : Bool) → nat_lt g.tet (2 ^ 32) ≡ b → if◌then◌else◌ {A = Result (Option Gluing × Reading) LexFault} b (Ok (Some g, c)) (Err (word_fault c NumberTooWide)) ≡ Ok (o, d) → IsEntry w o × (d ≡ c)
    by_test false t e = absurd cc
    by_test true t e =
        let parts : (Some g ≡ o) × (c ≡ d) = ok_parts {A = Option Gluing} (Some g, c) (o, d) e in
        (subst (λ (p : Option Gluing). IsEntry w p) parts.0 (gluing_of-some w g is (ltb-true g.tet (2 ^ 32) t)), sym parts.1)

entry_taken : (w : List ℕ) (c : Reading) (o : Option Gluing) (d : Reading) → entry_with w c ≡ Ok (o, d) → IsEntry w o × (d ≡ c)
entry_taken w c o d e = by_test (same_list w (codes "-")) refl e
  where
    by_test : (b : Bool) → same_list w (codes "-") ≡ b → if◌then◌else◌ {A = Result (Option Gluing × Reading) LexFault} b (Ok (None, c)) (gluing_entry (gluing_of w) c) ≡ Ok (o, d) → IsEntry w o × (d ≡ c)
    by_test true t e =
        let none : Option Gluing = None in
        let parts : (none ≡ o) × (c ≡ d) = ok_parts {A = Option Gluing} (None, c) (o, d) e in
        (subst (λ (p : Option Gluing). IsEntry w p) parts.0 (same_list-true w (codes "-") t), sym parts.1)
    by_test false t e = gluing_taken w (gluing_of w) c o d refl e

-- an entry that was read, and what remains
record TakesEntry (ts : List Token) (c : Reading) (o : Option Gluing) (d : Reading) : Type 0 where
  w : List ℕ
  word : TakesWord ts c w d
  entry : IsEntry w o

entry_read : (ts : List Token) (c : Reading) (o : Option Gluing) (d : Reading) → entry_at (with_tokens ts c) ≡ Ok (o, d) → TakesEntry ts c o d
unfolding entry_at
entry_read ts c o d e =
    let first : (x : List ℕ × Reading) × (word_at (with_tokens ts c) ≡ Ok x) × (entry_with x.0 x.1 ≡ Ok (o, d)) =
    bind_ok (word_at (with_tokens ts c)) (λ (x : List ℕ × Reading). entry_with x.0 x.1) (o, d) e in
    let taken : IsEntry (first.0).0 o × (d ≡ (first.0).1) = entry_taken (first.0).0 (first.0).1 o d first.2 in
    let w : TakesWord ts c (first.0).0 (first.0).1 = word_taken ts c (first.0).0 (first.0).1 first.1 in
    record { w = (first.0).0; word = record { column = w.column; rest = w.rest; tokens = w.tokens; left = taken.1 ∙ w.left }; entry = taken.0 }

-- a row is read entry by entry
abbrev pub Entry : Type 0
Entry = Option Gluing × Reading

abbrev after_third : Entry → Entry → Entry → Entry → Result (Row × Reading) LexFault
after_third e0 e1 e2 e3 = end_line_at e3.1 >>= λ (end : Reading). Ok (e0.0 ∷ e1.0 ∷ e2.0 ∷ e3.0 ∷ [], end)

abbrev after_second : Entry → Entry → Entry → Result (Row × Reading) LexFault
after_second e0 e1 e2 = entry_at e2.1 >>= after_third e0 e1 e2

abbrev after_first_entry : Entry → Entry → Result (Row × Reading) LexFault
after_first_entry e0 e1 = entry_at e1.1 >>= after_second e0 e1

abbrev pub after_line : Reading → Result (Row × Reading) LexFault
after_line c = entry_at c >>= λ (e0 : Entry). entry_at e0.1 >>= after_first_entry e0

-- a row that was read
record RowRead (c : Reading) (row : Row) (d : Reading) : Type 0 where
  line : Line
  rest : List Line
  lines : c.later ≡ line ∷ rest
  is_row : IsRowLine line row
  later : d.later ≡ rest
  at_end : d.current.tokens ≡ []

entry_next : (rest : List Token) (c d : Reading) (o : Option Gluing) (d' : Reading) → d ≡ with_tokens rest c → entry_at d ≡ Ok (o, d') → TakesEntry rest c o d'
entry_next rest c d o d' is e = entry_read rest c o d' (subst (λ (r : Reading). entry_at r ≡ Ok (o, d')) is e)

row_made : (c0 : Reading) (o0 o1 o2 o3 : Option Gluing) (d0 d1 d2 d3 end : Reading) → entry_at c0 ≡ Ok (o0, d0) → entry_at d0 ≡ Ok (o1, d1) → entry_at d1 ≡ Ok (o2, d2) → entry_at d2 ≡ Ok (o3, d3)
    → end_line_at d3 ≡ Ok end → IsRowLine c0.current (o0 ∷ o1 ∷ o2 ∷ o3 ∷ []) × (end.later ≡ c0.later) × (end.current.tokens ≡ [])
row_made c0 o0 o1 o2 o3 d0 d1 d2 d3 end e0 e1 e2 e3 ended_ok =
    let t0 : TakesEntry c0.current.tokens c0 o0 d0 = entry_read c0.current.tokens c0 o0 d0 e0 in
    let c1 : Reading = behind t0.word.column c0 in
    let t1 : TakesEntry t0.word.rest c1 o1 d1 = entry_next t0.word.rest c1 d0 o1 d1 t0.word.left e1 in
    let c2 : Reading = behind t1.word.column c1 in
    let t2 : TakesEntry t1.word.rest c2 o2 d2 = entry_next t1.word.rest c2 d1 o2 d2 t1.word.left e2 in
    let c3 : Reading = behind t2.word.column c2 in
    let t3 : TakesEntry t2.word.rest c3 o3 d3 = entry_next t2.word.rest c3 d2 o3 d3 t2.word.left e3 in
    let c4 : Reading = behind t3.word.column c3 in
    let ended : (t3.word.rest ≡ []) × (end ≡ with_tokens [] c4) = line_ended t3.word.rest c4 end (subst (λ (r : Reading). end_line_at r ≡ Ok end) t3.word.left ended_ok) in
    let tokens : c0.current.tokens ≡ word t0.word.column t0.w ∷ word t1.word.column t1.w ∷ word t2.word.column t2.w ∷ word t3.word.column t3.w ∷ [] =
    t0.word.tokens ∙ ap (λ (ts : List Token). word t0.word.column t0.w ∷ ts)
    (t1.word.tokens ∙ ap (λ (ts : List Token). word t1.word.column t1.w ∷ ts)
    (t2.word.tokens ∙ ap (λ (ts : List Token). word t2.word.column t2.w ∷ ts)
    (t3.word.tokens ∙ ap (λ (ts : List Token). word t3.word.column t3.w ∷ ts) ended.0))) in
    let ws : List (List ℕ) = t0.w ∷ t1.w ∷ t2.w ∷ t3.w ∷ [] in
    let all : AreWords (word t0.word.column t0.w ∷ word t1.word.column t1.w ∷ word t2.word.column t2.w ∷ word t3.word.column t3.w ∷ []) ws = (refl, (refl, (refl, (refl, tt)))) in (
      record {
        ws = ws;
        are_words = subst (λ (ts : List Token). AreWords ts ws) (sym tokens) all;
        entries = (t0.entry, (t1.entry, (t2.entry, (t3.entry, tt))));
        four_faces = refl;
      },
      ap (λ (r : Reading). r.later) ended.1,
      ap (λ (r : Reading). r.current.tokens) ended.1,
    )

row_joined : (c0 : Reading) (made row : Row) (end d : Reading) → IsRowLine c0.current made × (end.later ≡ c0.later) × (end.current.tokens ≡ []) → made ≡ row → end ≡ d
    → IsRowLine c0.current row × (d.later ≡ c0.later) × (d.current.tokens ≡ [])
row_joined c0 made row end d m rows ends =
    (subst (λ (r : Row). IsRowLine c0.current r) rows m.0, ap (λ (r : Reading). r.later) (sym ends) ∙ m.1, ap (λ (r : Reading). r.current.tokens) (sym ends) ∙ m.2)

row_ended : (c0 : Reading) (row : Row) (d : Reading) (e0 e1 e2 e3 : Entry) → entry_at c0 ≡ Ok e0 → entry_at e0.1 ≡ Ok e1 → entry_at e1.1 ≡ Ok e2 → entry_at e2.1 ≡ Ok e3 → after_third e0 e1 e2 e3 ≡ Ok (row, d)
    → IsRowLine c0.current row × (d.later ≡ c0.later) × (d.current.tokens ≡ [])
row_ended c0 row d e0 e1 e2 e3 r0 r1 r2 r3 e =
    let made : Row = e0.0 ∷ e1.0 ∷ e2.0 ∷ e3.0 ∷ [] in
    let last : (end : Reading) × (end_line_at e3.1 ≡ Ok end) × (◌≡◌ {A = Result (Row × Reading) LexFault} (Ok (made, end)) (Ok (row, d))) = bind_ok (end_line_at e3.1) (λ (end : Reading). Ok (made, end)) (row, d) e in
    let parts : (made ≡ row) × (last.0 ≡ d) = ok_parts (made, last.0) (row, d) last.2 in
    row_joined c0 made row last.0 d (row_made c0 e0.0 e1.0 e2.0 e3.0 e0.1 e1.1 e2.1 e3.1 last.0 r0 r1 r2 r3 last.1) parts.0 parts.1

row_of_line : (c0 : Reading) (row : Row) (d : Reading) → after_line c0 ≡ Ok (row, d) → IsRowLine c0.current row × (d.later ≡ c0.later) × (d.current.tokens ≡ [])
row_of_line c0 row d e =
    let b0 : (e0 : Entry) × (entry_at c0 ≡ Ok e0) × ((entry_at e0.1 >>= after_first_entry e0) ≡ Ok (row, d)) = bind_ok (entry_at c0) (λ (e0 : Entry). entry_at e0.1 >>= after_first_entry e0) (row, d) e in
    let b1 : (e1 : Entry) × (entry_at (b0.0).1 ≡ Ok e1) × (after_first_entry b0.0 e1 ≡ Ok (row, d)) = bind_ok (entry_at (b0.0).1) (after_first_entry b0.0) (row, d) b0.2 in
    let b2 : (e2 : Entry) × (entry_at (b1.0).1 ≡ Ok e2) × (after_second b0.0 b1.0 e2 ≡ Ok (row, d)) = bind_ok (entry_at (b1.0).1) (after_second b0.0 b1.0) (row, d) b1.2 in
    let b3 : (e3 : Entry) × (entry_at (b2.0).1 ≡ Ok e3) × (after_third b0.0 b1.0 b2.0 e3 ≡ Ok (row, d)) = bind_ok (entry_at (b2.0).1) (after_third b0.0 b1.0 b2.0) (row, d) b2.2 in
    row_ended c0 row d b0.0 b1.0 b2.0 b3.0 b0.1 b1.1 b2.1 b3.1 b3.2

row_read : (c : Reading) (row : Row) (d : Reading) → row_at c ≡ Ok (row, d) → RowRead c row d
unfolding row_at
row_read c row d e =
    let first : (x : Reading) × (need_line_at c ≡ Ok x) × (after_line x ≡ Ok (row, d)) = bind_ok (need_line_at c) after_line (row, d) e in
    let line : BeginsLine c first.0 = line_begun c first.0 first.1 in
    let read : IsRowLine (first.0).current row × (d.later ≡ (first.0).later) × (d.current.tokens ≡ []) = row_of_line first.0 row d first.2 in
    record {
      line = line.line;
      rest = line.rest;
      lines = line.lines;
      is_row = subst (λ (l : Line). IsRowLine l row) (ap (λ (r : Reading). r.current) line.left) read.0;
      later = read.1 ∙ ap (λ (r : Reading). r.later) line.left;
      at_end = read.2;
    }

-- rows that were read
record RowsRead (n : ℕ) (c : Reading) (rows : List Row) (d : Reading) : Type 0 where
  lines : List Line
  split : c.later ≡ lines ++ d.later
  are_rows : AllZip IsRowLine lines rows
  many : length rows ≡ n
  at_end : c.current.tokens ≡ [] → d.current.tokens ≡ []

rows_read : (n : ℕ) (c : Reading) (rows : List Row) (d : Reading) → rows_at n c ≡ Ok (rows, d) → RowsRead n c rows d
unfolding rows_at
rows_read zero c rows d e =
    let parts : ([] ≡ rows) × (c ≡ d) = ok_parts {A = List Row} ([], c) (rows, d) e in
    record {
      lines = [];
      split = ap (λ (r : Reading). r.later) parts.1;
      are_rows = subst (λ (rs : List Row). AllZip IsRowLine [] rs) parts.0 tt;
      many = ap (λ (rs : List Row). length rs) (sym parts.0);
      at_end = λ h. ap (λ (r : Reading). r.current.tokens) (sym parts.1) ∙ h;
    }
rows_read (suc n) c rows d e =
    let first : (x : Row × Reading) × (row_at c ≡ Ok x) × ((rows_at n x.1 >>= λ (y : List Row × Reading). Ok (x.0 ∷ y.0, y.1)) ≡ Ok (rows, d)) =
    bind_ok (row_at c) (λ (x : Row × Reading). rows_at n x.1 >>= λ (y : List Row × Reading). Ok (x.0 ∷ y.0, y.1)) (rows, d) e in
    let others : (y : List Row × Reading) × (rows_at n (first.0).1 ≡ Ok y) × (◌≡◌ {A = Result (List Row × Reading) LexFault} (Ok ((first.0).0 ∷ y.0, y.1)) (Ok (rows, d))) =
    bind_ok (rows_at n (first.0).1) (λ (y : List Row × Reading). Ok ((first.0).0 ∷ y.0, y.1)) (rows, d) first.2 in
    let parts : ((first.0).0 ∷ (others.0).0 ≡ rows) × ((others.0).1 ≡ d) = ok_parts ((first.0).0 ∷ (others.0).0, (others.0).1) (rows, d) others.2 in
    let one : RowRead c (first.0).0 (first.0).1 = row_read c (first.0).0 (first.0).1 first.1 in
    let more : RowsRead n (first.0).1 (others.0).0 (others.0).1 = rows_read n (first.0).1 (others.0).0 (others.0).1 others.1 in
    record {
      lines = one.line ∷ more.lines;
      split = one.lines ∙ ap (λ (ls : List Line). one.line ∷ ls) (sym one.later ∙ more.split ∙ ap (λ (r : Reading). more.lines ++ r.later) parts.1);
      are_rows = subst (λ (rs : List Row). AllZip IsRowLine (one.line ∷ more.lines) rs) parts.0 (one.is_row, more.are_rows);
      many = ap (λ (rs : List Row). length rs) (sym parts.0) ∙ ap suc more.many;
      at_end = λ h. ap (λ (r : Reading). r.current.tokens) (sym parts.1) ∙ more.at_end one.at_end;
    }

-- the entries of lines that are rows are glued by permutations, four to a row
row_permutes : (ws : List (List ℕ)) (row : Row) → AllZip IsEntry ws row → (f : ℕ) (g : Gluing) → get_or row f None ≡ Some g → IsPermutationOfFour g.perm
row_permutes [] [] z f g e = absurd cc
row_permutes [] (o ∷ row) z f g e = absurd z
row_permutes (w ∷ ws) [] z f g e = absurd z
row_permutes (w ∷ ws) (None ∷ row) z zero g e = absurd cc
row_permutes (w ∷ ws) (Some h ∷ row) z zero g e = let same : h ≡ g = cc in subst (λ (k : Gluing). IsPermutationOfFour k.perm) same z.0.permutes
row_permutes (w ∷ ws) (o ∷ row) z (suc f) g e = row_permutes ws row z.1 f g e

rows_permute : (lines : List Line) (rows : List Row) → AllZip IsRowLine lines rows → (t f : ℕ) (g : Gluing) → get_or (get_or rows t []) f None ≡ Some g → IsPermutationOfFour g.perm
rows_permute [] [] z t f g e = absurd cc
rows_permute [] (row ∷ rows) z t f g e = absurd z
rows_permute (l ∷ lines) [] z t f g e = absurd z
rows_permute (l ∷ lines) (row ∷ rows) z zero f g e = row_permutes z.0.ws row z.0.entries f g e
rows_permute (l ∷ lines) (row ∷ rows) z (suc t) f g e = rows_permute lines rows z.1 t f g e

rows_four : (lines : List Line) (rows : List Row) → AllZip IsRowLine lines rows → (k : ℕ) (d : Row) → k < length rows → length (get_or rows k d) ≡ 4
rows_four [] [] z k d h = absurd (omega arith)
rows_four [] (row ∷ rows) z k d h = absurd z
rows_four (l ∷ lines) [] z k d h = absurd z
rows_four (l ∷ lines) (row ∷ rows) z zero d h = z.0.four_faces
rows_four (l ∷ lines) (row ∷ rows) z (suc k) d h = rows_four lines rows z.1 k d (omega arith)

table_of_lines : (lines : List Line) (rows : List Row) → AllZip IsRowLine lines rows → table_fault rows ≡ None → IsTable rows
table_of_lines lines rows z n = IsTable-no_fault rows (rows_four lines rows z) (λ x g e. rows_permute lines rows z x.tet x.face g e) n

-- what a reader reads is read also where its errors are those of a table
pub lexed_ok : {A : Type 0} (r : Result A LexFault) (x : A) → lexed r ≡ Ok x → r ≡ Ok x
lexed_ok (Ok y) x e = let same : y ≡ x = cc in cc
lexed_ok (Err f) x e = absurd cc

checked_ok : (o : Option TableFault) (x y : List Row × Reading) → checked o x ≡ Ok y → (o ≡ None) × (x ≡ y)
checked_ok None x y e = (refl, cc)
checked_ok (Some f) x y e = absurd cc

-- the n rows that were read after the end of a line
record CountedRead (n : ℕ) (ts : List Token) (c : Reading) (rows : List Row) (d : Reading) : Type 0 where
  ended : ts ≡ []
  lines : List Line
  split : c.later ≡ lines ++ d.later
  are_rows : AllZip IsRowLine lines rows
  many : length rows ≡ n
  table : IsTable rows
  at_end : d.current.tokens ≡ []

counted_read : (n : ℕ) (ts : List Token) (c : Reading) (rows : List Row) (d : Reading) → counted_rows_at n (with_tokens ts c) ≡ Ok (rows, d) → CountedRead n ts c rows d
unfolding counted_rows_at
counted_read n ts c rows d e =
    let first : (x : Reading) × (lexed (end_line_at (with_tokens ts c)) ≡ Ok x) × ((lexed (rows_at n x) >>= λ (y : List Row × Reading). checked (table_fault y.0) y) ≡ Ok (rows, d)) =
    bind_ok (lexed (end_line_at (with_tokens ts c))) (λ (x : Reading). lexed (rows_at n x) >>= λ (y : List Row × Reading). checked (table_fault y.0) y) (rows, d) e in
    let second : (y : List Row × Reading) × (lexed (rows_at n first.0) ≡ Ok y) × (checked (table_fault y.0) y ≡ Ok (rows, d)) =
    bind_ok (lexed (rows_at n first.0)) (λ (y : List Row × Reading). checked (table_fault y.0) y) (rows, d) first.2 in
    let ended : (ts ≡ []) × (first.0 ≡ with_tokens [] c) = line_ended ts c first.0 (lexed_ok (end_line_at (with_tokens ts c)) first.0 first.1) in
    let fine : (table_fault (second.0).0 ≡ None) × (second.0 ≡ (rows, d)) = checked_ok (table_fault (second.0).0) second.0 (rows, d) second.2 in
    counted_from ts c rows d first.0 (second.0).0 (second.0).1 ended.0 ended.1 (rows_read n first.0 (second.0).0 (second.0).1 (lexed_ok (rows_at n first.0) second.0 second.1)) fine.0
    (λ i. (fine.1 i).0) (λ i. (fine.1 i).1)
  where
    counted_from : (ts : List Token) (c : Reading) (rows : List Row) (d : Reading) (begin : Reading) (read_rows : List Row) (end : Reading) → ts ≡ [] → begin ≡ with_tokens [] c → RowsRead n begin read_rows end
        → table_fault read_rows ≡ None → read_rows ≡ rows → end ≡ d → CountedRead n ts c rows d
    counted_from ts c rows d begin read_rows end none starts r fine same_rows same_end =
        let made : CountedRead n ts c read_rows end = record {
          ended = none;
          lines = r.lines;
          split = ap (λ (x : Reading). x.later) (sym starts) ∙ r.split;
          are_rows = r.are_rows;
          many = r.many;
          table = table_of_lines r.lines read_rows r.are_rows fine;
          at_end = r.at_end (ap (λ (x : Reading). x.current.tokens) starts);
        } in
        subst (λ (rs : List Row). CountedRead n ts c rs d) same_rows (subst (λ (x : Reading). CountedRead n ts c read_rows x) same_end made)

-- what follows the word `tri`, if it was read
record TableRead (ts : List Token) (c : Reading) (rows : List Row) (d : Reading) : Type 0 where
  w : List ℕ
  column : ℕ
  tokens : ts ≡ word column w ∷ []
  value : decimal_value w ≡ Some (length rows)
  lines : List Line
  split : c.later ≡ lines ++ d.later
  are_rows : AllZip IsRowLine lines rows
  table : IsTable rows
  at_end : d.current.tokens ≡ []

table_read : (ts : List Token) (c : Reading) (rows : List Row) (d : Reading) → table_at (with_tokens ts c) ≡ Ok (rows, d) → TableRead ts c rows d
unfolding table_at
table_read ts c rows d e =
    let first : (x : ℕ × Reading) × (lexed (number_at limit (with_tokens ts c)) ≡ Ok x) × ((if nat_lt max_tets x.0 then Err (Table TooMany) else counted_rows_at x.0 x.1) ≡ Ok (rows, d)) =
    bind_ok (lexed (number_at limit (with_tokens ts c))) (λ (x : ℕ × Reading). if nat_lt max_tets x.0 then Err (Table TooMany) else counted_rows_at x.0 x.1) (rows, d) e in
    from_number (first.0).0 (first.0).1 (number_read limit ts c (first.0).0 (first.0).1 (lexed_ok (number_at limit (with_tokens ts c)) first.0 first.1)) (nat_lt max_tets (first.0).0) first.2
  where
    from_counted : (n : ℕ) (x : Reading) (t : TakesNumber limit ts c n x) → CountedRead n t.word.rest (behind t.word.column c) rows d → TableRead ts c rows d
    from_counted n x t r = record {
      w = t.w;
      column = t.word.column;
      tokens = t.word.tokens ∙ ap (λ (us : List Token). word t.word.column t.w ∷ us) r.ended;
      value = t.number.value ∙ ap (λ k. Some k) (sym r.many);
      lines = r.lines;
      split = r.split;
      are_rows = r.are_rows;
      table = r.table;
      at_end = r.at_end;
    }

    from_number : (n : ℕ) (x : Reading) → TakesNumber limit ts c n x → (b : Bool) → if◌then◌else◌ {A = Result (List Row × Reading) TextFault} b (Err (Table TooMany)) (counted_rows_at n x) ≡ Ok (rows, d) → TableRead ts c rows d
    from_number n x t true g = absurd cc
    from_number n x t false g =
        from_counted n x t (counted_read n t.word.rest (behind t.word.column c) rows d (subst (λ (r : Reading). counted_rows_at n r ≡ Ok (rows, d)) t.word.left g))

-- a table on the next lines, if it was read
pub record TriTableRead (c : Reading) (rows : List Row) (d : Reading) : Type 0 where
  pub lines : List Line
  pub split : c.later ≡ lines ++ d.later
  pub table : AreTriLines lines rows
  pub at_end : d.current.tokens ≡ []

pub tri_table_read : (c : Reading) (rows : List Row) (d : Reading) → tri_table_at c ≡ Ok (rows, d) → TriTableRead c rows d
unfolding tri_table_at
tri_table_read c rows d e =
    let first : (x : Reading) × (lexed (need_line_at c) ≡ Ok x) × ((lexed (exactly_at (codes "tri") x) >>= λ (y : Reading). table_at y) ≡ Ok (rows, d)) =
    bind_ok (lexed (need_line_at c)) (λ (x : Reading). lexed (exactly_at (codes "tri") x) >>= λ (y : Reading). table_at y) (rows, d) e in
    let second : (y : Reading) × (lexed (exactly_at (codes "tri") first.0) ≡ Ok y) × (table_at y ≡ Ok (rows, d)) =
    bind_ok (lexed (exactly_at (codes "tri") first.0)) (λ (y : Reading). table_at y) (rows, d) first.2 in
    from_line first.0 second.0 (line_begun c first.0 (lexed_ok (need_line_at c) first.0 first.1))
    (exactly_read (codes "tri") (first.0).current.tokens first.0 second.0 (lexed_ok (exactly_at (codes "tri") first.0) second.0 second.1)) second.2
  where
    from_table : (x y : Reading) → BeginsLine c x → (w : TakesWord x.current.tokens x (codes "tri") y) → TableRead w.rest (behind w.column x) rows d → TriTableRead c rows d
    from_table x y l w t =
        let tokens : x.current.tokens ≡ word w.column (codes "tri") ∷ word t.column t.w ∷ [] = w.tokens ∙ ap (λ (us : List Token). word w.column (codes "tri") ∷ us) t.tokens in
        let all : AreWords (word w.column (codes "tri") ∷ word t.column t.w ∷ []) (codes "tri" ∷ t.w ∷ []) = (refl, (refl, tt)) in
        let here : AreWords x.current.tokens (codes "tri" ∷ t.w ∷ []) = subst (λ (us : List Token). AreWords us (codes "tri" ∷ t.w ∷ [])) (sym tokens) all in
        let in_line : AreWords l.line.tokens (codes "tri" ∷ t.w ∷ []) = subst (λ (r : Reading). AreWords r.current.tokens (codes "tri" ∷ t.w ∷ [])) l.left here in
        record {
          lines = l.line ∷ t.lines;
          split = l.lines ∙ ap (λ (ls : List Line). l.line ∷ ls) (ap (λ (r : Reading). r.later) (sym l.left) ∙ t.split);
          table = (t.w, in_line, t.value, t.are_rows, t.table);
          at_end = t.at_end;
        }

    from_line : (x y : Reading) → BeginsLine c x → TakesWord x.current.tokens x (codes "tri") y → table_at y ≡ Ok (rows, d) → TriTableRead c rows d
    from_line x y l w g = from_table x y l w (table_read w.rest (behind w.column x) rows d (subst (λ (r : Reading). table_at r ≡ Ok (rows, d)) w.left g))
