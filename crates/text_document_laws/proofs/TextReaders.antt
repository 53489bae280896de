-- Readers of the text of a table that do not check what it means; the readers of documents fail if these do, with the
-- same errors.
use Rattle.std.proofs.Common.{◌≡◌, ℕ, zero, suc, ◌<◌, ◌≤◌, Bool, true, false, List, [], ◌∷◌, Option, Some, None, Result, Ok, Err, refl, sym, ap, subst, arith}
use Rattle.std.specs.Prelude.{⊤, nat_lt, if◌then◌else◌}
use Rattle.std.proofs.lemmas.Bool.{ltb-true, ltb-false}
use Rattle.text_definitions.specs.declared.LexKind.{LexKind}
use Rattle.text_definitions.specs.declared.LexKind.TheVariants.{NumberTooWide, BadWord}
use Rattle.text_definitions.specs.declared.LexFault.{LexFault}
use Rattle.text_definitions.specs.Text.{decimal_value}
use Rattle.text_definitions.specs.Written.{limit}
use Rattle.text_definitions.specs.Reading.{Reading, ◌>>=◌, word_fault, word_at, number_up_to, number_at, need_line_at, end_line_at}
use Rattle.table_definitions.specs.declared.TableFault.{TableFault}
use Rattle.table_definitions.specs.Table.{max_tets, Gluing, table_fault}
use Rattle.table_definitions.specs.Table as tables
use Rattle.table_definitions.specs.declared.TextFault.{TextFault}
use Rattle.table_definitions.specs.declared.TextFault.TheVariants.{Lex}
use Rattle.table_definitions.specs.TableText.{lexed, entry_at, row_at, rows_at, checked, counted_rows_at, table_at}
use Rattle.signature_definitions.specs.declared.InputFault.{InputFault}
use Rattle.signature_definitions.specs.declared.SigFault.{SigFault}
use Rattle.signature_definitions.specs.SignatureText.{texted, decoded, signature_table, signature_at, any_table_at}
use Rattle.text_document_definitions.specs.Documents.{worded, next_table_at}
use Rattle.text_document_laws.proofs.Local.{alone, moved}
use Rattle.text_document_laws.proofs.LocalWords.{as_is, word_with}
use Rattle.text_document_laws.proofs.LocalTables.{in_text, entry_test, entry_word, first, second, third, fourth, entries, Rows, looked_at, rows_on, if_few, any_text, any_word, text_on, name_test, by_name, worded_word, table_named}
use Rattle.text_document_laws.proofs.Given.{Entry}

abbrev pub Read : Type 0
Read = Result (⊤ × Reading) LexFault

-- n words that pass a test, and the end of the line
unfoldable pub words_at : {A : Type 0} → (List ℕ → Result A LexKind) → ℕ → Reading → Read
words_at test zero c = moved end_line_at c
words_at {A} test (suc n) c = word_with test c >>= λ (x : A × Reading). words_at test n x.1

-- a line of four entries, and n such lines
abbrev pub row_text : Reading → Read
row_text c = words_at entry_test 4 c

abbrev pub row_line : Reading → Read
row_line c = moved need_line_at c >>= λ (u : ⊤ × Reading). row_text u.1

unfoldable pub rows_text : ℕ → Reading → Read
rows_text zero c = Ok (tt, c)
rows_text (suc n) c = row_line c >>= λ (x : ⊤ × Reading). rows_text n x.1

-- what follows the word `tri`, and the word `sig`
abbrev pub counted_text : ℕ → Reading → Read
counted_text n c = moved end_line_at c >>= λ (u : ⊤ × Reading). rows_text n u.1

abbrev pub tri_text : Reading → Read
tri_text c = number_at max_tets c >>= λ (n : ℕ × Reading). counted_text n.0 n.1

abbrev pub sig_text : Reading → Read
sig_text c = word_with any_text c >>= λ (w : List ℕ × Reading). moved end_line_at w.1

-- a table by its first word, on the current line and on the next lines
unfoldable pub text_named : Bool → Reading → Read
text_named true c = tri_text c
text_named false c = sig_text c

abbrev pub text_at : Reading → Read
text_at c = word_with name_test c >>= λ (b : Bool × Reading). text_named b.0 b.1

abbrev pub next_text : Reading → Read
next_text c = moved need_line_at c >>= λ (u : ⊤ × Reading). text_at u.1

-- s returns what `view` makes of the value of r, and the same errors of the lexer
abbrev pub Copies : {X Y E : Type 0} → (LexFault → E) → (X → Y) → Result X E → Result Y LexFault → Type 0
Copies lex view (Ok x) s = s ≡ Ok (view x)
Copies lex view (Err e) s = (f : LexFault) → e ≡ lex f → s ≡ Err f

pub copy_bind : {X Y Z W E : Type 0} (lex : LexFault → E) (view : X → Y) (kept : Z → W) (r : Result X E) (s : Result Y LexFault) (g : X → Result Z E) (h : Y → Result W LexFault)
    → Copies lex view r s → ((x : X) → Copies lex kept (g x) (h (view x))) → Copies lex kept (r >>= g) (s >>= h)
copy_bind {X} {Y} {Z} {W} lex view kept (Ok x) s g h c d = subst (λ (t : Result W LexFault). Copies lex kept (g x) t) (ap (λ (q : Result Y LexFault). q >>= h) (sym c)) (d x)
copy_bind {X} {Y} lex view kept (Err e) s g h c d = λ f p. ap (λ (q : Result Y LexFault). q >>= h) (c f p)

-- as `copy_bind`, where the second readers may use that the first returned their argument
pub copy_known : {X Y Z W E : Type 0} (lex : LexFault → E) (view : X → Y) (kept : Z → W) (r : Result X E) (s : Result Y LexFault) (g : X → Result Z E) (h : Y → Result W LexFault)
    → Copies lex view r s → ((x : X) → r ≡ Ok x → Copies lex kept (g x) (h (view x))) → Copies lex kept (r >>= g) (s >>= h)
copy_known {X} {Y} {Z} {W} lex view kept (Ok x) s g h c d = subst (λ (t : Result W LexFault). Copies lex kept (g x) t) (ap (λ (q : Result Y LexFault). q >>= h) (sym c)) (d x refl)
copy_known {X} {Y} lex view kept (Err e) s g h c d = λ f p. ap (λ (q : Result Y LexFault). q >>= h) (c f p)

-- only the errors are compared
abbrev pub FaultsAs : {X Y E : Type 0} → (LexFault → E) → Result X E → Result Y LexFault → Type 0
FaultsAs lex r s = (f : LexFault) → r ≡ Err (lex f) → s ≡ Err f

pub faults_bind : {X Y Z W E : Type 0} (lex : LexFault → E) (view : X → Y) (r : Result X E) (s : Result Y LexFault) (g : X → Result Z E) (h : Y → Result W LexFault)
    → Copies lex view r s → ((x : X) → r ≡ Ok x → FaultsAs lex (g x) (h (view x))) → FaultsAs lex (r >>= g) (s >>= h)
faults_bind {X} {Y} {Z} {W} lex view (Ok x) s g h c d = subst (λ (t : Result W LexFault). FaultsAs lex (g x) t) (ap (λ (q : Result Y LexFault). q >>= h) (sym c)) (d x refl)
faults_bind {X} {Y} {Z} {W} {E} lex view (Err e) s g h c d = λ f p. (let same : e ≡ lex f = cc in ap (λ (q : Result Y LexFault). q >>= h) (c f same))

-- as `copy_bind`, where the second reader has no counterpart and changes nothing that is compared
pub copy_then : {X Y Z E : Type 0} (lex : LexFault → E) (view : X → Y) (kept : Z → Y) (r : Result X E) (s : Result Y LexFault) (g : X → Result Z E)
    → Copies lex view r s → ((x : X) → Copies lex kept (g x) (Ok (view x))) → Copies lex kept (r >>= g) s
copy_then {X} {Y} lex view kept (Ok x) s g c d = subst (λ (t : Result Y LexFault). Copies lex kept (g x) t) (sym c) (d x)
copy_then lex view kept (Err e) s g c d = c

pub copy_same : {X : Type 0} (r : Result X LexFault) → Copies as_is (λ (x : X). x) r r
copy_same (Ok x) = refl
copy_same (Err e) = λ f p. ap (λ (g : LexFault). Err g) p

copy_equal : {X : Type 0} (r s : Result X LexFault) → s ≡ r → Copies as_is (λ (x : X). x) r s
copy_equal {X} r s e = subst (λ (q : Result X LexFault). Copies as_is (λ (x : X). x) r q) (sym e) (copy_same r)

abbrev pub shown_only : Reading → ⊤ × Reading
shown_only d = (tt, d)

abbrev pub left_only : {X : Type 0} → X × Reading → ⊤ × Reading
left_only x = (tt, x.1)

pub copy_alone : (r : Result Reading LexFault) → Copies as_is shown_only r (alone r)
copy_alone (Ok d) = refl
copy_alone (Err e) = λ f p. ap (λ (g : LexFault). Err g) p

copy_lexed : {X Y : Type 0} (view : X → Y) (r : Result X LexFault) (s : Result Y LexFault) → Copies as_is view r s → Copies Lex view (lexed r) s
copy_lexed view (Ok x) s c = c
copy_lexed view (Err e) s c = λ f p. (let same : e ≡ f = cc in c f same)

copy_texted : {X Y : Type 0} (view : X → Y) (r : Result X TextFault) (s : Result Y LexFault) → Copies Lex view r s → Copies in_text view (texted r) s
copy_texted view (Ok x) s c = c
copy_texted view (Err e) s c = λ f p. (let same : e ≡ Lex f = cc in c f same)

pub copy_worded : {X Y : Type 0} (view : X → Y) (r : Result X LexFault) (s : Result Y LexFault) → Copies as_is view r s → Copies in_text view (worded r) s
copy_worded view r s c = copy_texted view (lexed r) s (copy_lexed view r s c)

-- rows
abbrev one_entry : Entry → Entry
one_entry e = e

copy_entry : (c : Reading) → Copies as_is one_entry (entry_at c) (word_with entry_test c)
copy_entry c = copy_equal (entry_at c) (word_with entry_test c) (entry_word c)

abbrev after : ℕ → Entry → Read
after n e = words_at entry_test n e.1

copy_fourth : (e0 e1 e2 e3 : Option Gluing) (c : Reading) → Copies as_is left_only (fourth e0 e1 e2 e3 c) (words_at entry_test 0 c)
unfolding words_at
copy_fourth e0 e1 e2 e3 c = copy_then as_is shown_only left_only (end_line_at c) (moved end_line_at c) (λ (end : Reading). Ok (e0 ∷ e1 ∷ e2 ∷ e3 ∷ [], end)) (copy_alone (end_line_at c)) (λ end. refl)

copy_third : (e0 e1 e2 : Option Gluing) (c : Reading) → Copies as_is left_only (third e0 e1 e2 c) (words_at entry_test 1 c)
unfolding words_at
copy_third e0 e1 e2 c =
    copy_bind as_is one_entry left_only (entry_at c) (word_with entry_test c) (λ (e : Entry). fourth e0 e1 e2 e.0 e.1) (after 0) (copy_entry c) (λ e. copy_fourth e0 e1 e2 e.0 e.1)

copy_second : (e0 e1 : Option Gluing) (c : Reading) → Copies as_is left_only (second e0 e1 c) (words_at entry_test 2 c)
unfolding words_at
copy_second e0 e1 c = copy_bind as_is one_entry left_only (entry_at c) (word_with entry_test c) (λ (e : Entry). third e0 e1 e.0 e.1) (after 1) (copy_entry c) (λ e. copy_third e0 e1 e.0 e.1)

copy_first : (e0 : Option Gluing) (c : Reading) → Copies as_is left_only (first e0 c) (words_at entry_test 3 c)
unfolding words_at
copy_first e0 c = copy_bind as_is one_entry left_only (entry_at c) (word_with entry_test c) (λ (e : Entry). second e0 e.0 e.1) (after 2) (copy_entry c) (λ e. copy_second e0 e.0 e.1)

copy_entries : (c : Reading) → Copies as_is left_only (entries c) (words_at entry_test 4 c)
unfolding words_at
copy_entries c = copy_bind as_is one_entry left_only (entry_at c) (word_with entry_test c) (λ (e : Entry). first e.0 e.1) (after 3) (copy_entry c) (λ e. copy_first e.0 e.1)

copy_row : (c : Reading) → Copies as_is left_only (row_at c) (row_line c)
unfolding row_at
copy_row c = copy_bind as_is shown_only left_only (need_line_at c) (moved need_line_at c) entries (λ (u : ⊤ × Reading). row_text u.1) (copy_alone (need_line_at c)) (λ d. copy_entries d)

copy_rows : (n : ℕ) (c : Reading) → Copies as_is left_only (rows_at n c) (rows_text n c)
unfolding rows_at rows_text
copy_rows zero c = refl
copy_rows (suc n) c =
    copy_bind as_is left_only left_only (row_at c) (row_line c) (λ (r : tables.Row × Reading). rows_at n r.1 >>= λ (rs : Rows). Ok (r.0 ∷ rs.0, rs.1)) (λ (x : ⊤ × Reading). rows_text n x.1) (copy_row c)
    (λ r. copy_then as_is left_only left_only (rows_at n r.1) (rows_text n r.1) (λ (rs : Rows). Ok (r.0 ∷ rs.0, rs.1)) (copy_rows n r.1) (λ rs. refl))

-- an error of the rows is no error of the lexer
copy_checked : (o : Option TableFault) (x : Rows) → Copies Lex left_only (checked o x) (Ok (left_only x))
copy_checked None x = refl
copy_checked (Some g) x = λ f p. absurd cc

copy_counted : (n : ℕ) (c : Reading) → Copies Lex left_only (counted_rows_at n c) (counted_text n c)
unfolding counted_rows_at
copy_counted n c =
    copy_bind Lex shown_only left_only (lexed (end_line_at c)) (moved end_line_at c) (rows_on n) (λ (u : ⊤ × Reading). rows_text n u.1) (copy_lexed shown_only (end_line_at c) (moved end_line_at c) (copy_alone (end_line_at c)))
    (λ d. copy_then Lex left_only left_only (lexed (rows_at n d)) (rows_text n d) (λ (rows : Rows). looked_at rows.0 rows.1) (copy_lexed left_only (rows_at n d) (rows_text n d) (copy_rows n d))
    (λ rows. copy_checked (table_fault rows.0) rows))

-- a number up to the greatest of a document, in place of one up to the limit of tetrahedra
abbrev few_on : ℕ × Reading → Result Rows TextFault
few_on n = if_few (nat_lt max_tets n.0) n.0 n.1

abbrev counted_on : ℕ × Reading → Read
counted_on n = counted_text n.0 n.1

abbrev upto : Bool → ℕ → Reading → Result (ℕ × Reading) LexFault
upto wide n c = if wide then Err (word_fault c NumberTooWide) else Ok (n, c)

copy_upto : (n : ℕ) (c : Reading) (wide many : Bool) → nat_lt limit n ≡ wide → nat_lt max_tets n ≡ many → Copies Lex left_only (lexed (upto wide n c) >>= λ (m : ℕ × Reading). if_few many m.0 m.1) (upto many n c >>= counted_on)
copy_upto n c false true p q = λ f e. absurd cc
copy_upto n c true true p q = λ f e. (let same : word_fault c NumberTooWide ≡ f = cc in ap (λ (g : LexFault). Err g) same)
copy_upto n c false false p q = copy_counted n c
copy_upto n c true false p q =
    let above : limit < n = ltb-true limit n p in
    let limited : n ≤ max_tets = ltb-false max_tets n q in
    absurd (omega (arith, above, limited))

copy_value : (o : Option ℕ) (c : Reading) → Copies Lex left_only (lexed (number_up_to limit o c) >>= few_on) (number_up_to max_tets o c >>= counted_on)
copy_value None c = λ f e. (let same : word_fault c BadWord ≡ f = cc in ap (λ (g : LexFault). Err g) same)
copy_value (Some n) c = by_test (nat_lt limit n) refl
  where
    by_test : (wide : Bool) → nat_lt limit n ≡ wide → Copies Lex left_only (lexed (upto wide n c) >>= few_on) (number_up_to max_tets (Some n) c >>= counted_on)
    by_test false p = copy_upto n c false (nat_lt max_tets n) p refl
    by_test true p = copy_upto n c true (nat_lt max_tets n) p refl

copy_number : (r : Result (List ℕ × Reading) LexFault)
    → Copies Lex left_only (lexed (r >>= λ (w : List ℕ × Reading). number_up_to limit (decimal_value w.0) w.1) >>= few_on) (r >>= (λ (w : List ℕ × Reading). number_up_to max_tets (decimal_value w.0) w.1) >>= counted_on)
copy_number (Ok w) = copy_value (decimal_value w.0) w.1
copy_number (Err g) = λ f e. (let same : g ≡ f = cc in ap (λ (g : LexFault). Err g) same)

copy_tri : (c : Reading) → Copies Lex left_only (table_at c) (tri_text c)
unfolding table_at number_at
copy_tri c = copy_number (word_at c)

-- signatures
copy_decoded : (c : Reading) (r : Result (List tables.Row) SigFault) → Copies in_text left_only (decoded c r) (Ok (tt, c))
copy_decoded c (Ok rows) = refl
copy_decoded c (Err g) = λ f p. absurd cc

copy_sig : (c : Reading) → Copies in_text left_only (signature_at c) (sig_text c)
unfolding signature_at
copy_sig c =
    copy_bind in_text (λ (w : List ℕ × Reading). w) left_only (worded (word_at c)) (word_with any_text c) (λ (w : List ℕ × Reading). text_on w.0 w.1) (λ (w : List ℕ × Reading). moved end_line_at w.1)
    (copy_worded (λ (w : List ℕ × Reading). w) (word_at c) (word_with any_text c) (copy_equal (word_at c) (word_with any_text c) (any_word c)))
    (λ w. copy_then in_text shown_only left_only (worded (end_line_at w.1)) (moved end_line_at w.1) (λ (end : Reading). decoded end (signature_table w.0)) (copy_worded shown_only (end_line_at w.1) (moved end_line_at w.1) (copy_alone (end_line_at w.1)))
    (λ end. copy_decoded end (signature_table w.0)))

-- tables
copy_named : (b : Bool) (c : Reading) → Copies in_text left_only (by_name b c) (text_named b c)
unfolding by_name text_named
copy_named true c = copy_texted left_only (table_at c) (tri_text c) (copy_tri c)
copy_named false c = copy_sig c

pub copy_table : (c : Reading) → Copies in_text left_only (any_table_at c) (text_at c)
copy_table c =
    subst (λ (r : Result Rows InputFault). Copies in_text left_only r (text_at c)) (table_named c)
    (copy_bind in_text (λ (b : Bool × Reading). b) left_only (worded_word name_test c) (word_with name_test c) (λ (b : Bool × Reading). by_name b.0 b.1) (λ (b : Bool × Reading). text_named b.0 b.1)
    (copy_worded (λ (b : Bool × Reading). b) (word_with name_test c) (word_with name_test c) (copy_same (word_with name_test c))) (λ b. copy_named b.0 b.1))

pub copy_next_table : (c : Reading) → Copies in_text left_only (next_table_at c) (next_text c)
unfolding next_table_at
copy_next_table c =
    copy_bind in_text shown_only left_only (worded (need_line_at c)) (moved need_line_at c) any_table_at (λ (u : ⊤ × Reading). text_at u.1) (copy_worded shown_only (need_line_at c) (moved need_line_at c) (copy_alone (need_line_at c)))
    (λ d. copy_table d)
