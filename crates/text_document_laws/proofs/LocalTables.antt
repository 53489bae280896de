-- Tables in either form: their readers see no more than they read and the next symbol.
use Rattle.std.proofs.Common.{◌≡◌, ℕ, zero, suc, ◌^◌, Bool, true, false, List, [], ◌∷◌, Option, Some, None, Result, Ok, Err, refl, ap}
use Rattle.std.specs.Prelude.{nat_lt, if◌then◌else◌, codes}
use Rattle.text_definitions.specs.declared.LexKind.{LexKind}
use Rattle.text_definitions.specs.declared.LexKind.TheVariants.{BadWord, NumberTooWide}
use Rattle.text_definitions.specs.declared.LexFault.{LexFault}
use Rattle.text_definitions.specs.Written.{limit}
use Rattle.text_definitions.specs.Reading.{Reading, ◌>>=◌, word_at, number_at, need_line_at, end_line_at, word_fault}
use Rattle.table_definitions.specs.Lists.{same_list}
use Rattle.table_definitions.specs.declared.TableFault.{TableFault}
use Rattle.table_definitions.specs.declared.TableFault.TheVariants.{TooMany}
use Rattle.table_definitions.specs.Table.{max_tets, Gluing, table_fault}
use Rattle.table_definitions.specs.Table as tables
use Rattle.table_definitions.specs.declared.TextFault.{TextFault}
use Rattle.table_definitions.specs.declared.TextFault.TheVariants.{Lex, Table}
use Rattle.table_definitions.specs.TableText.{lexed, gluing_of, gluing_entry, entry_at, row_at, rows_at, checked, counted_rows_at, table_at}
use Rattle.signature_definitions.specs.declared.InputFault.{InputFault}
use Rattle.signature_definitions.specs.declared.InputFault.TheVariants.{Text}
use Rattle.signature_definitions.specs.declared.SigFault.{SigFault}
use Rattle.signature_definitions.specs.SignatureText.{texted, decoded, signature_table, signature_at, named_table_at, any_table_at}
use Rattle.text_document_definitions.specs.Documents.{worded}
use Rattle.text_document_laws.proofs.Local.{Goes, goes_chained, goes_pure, alone, moved, goes_moved, Lift, goes_lifted, of_same, lift_of}
use Rattle.text_document_laws.proofs.LocalWords.{tested, word_with, goes_word, goes_end}
use Rattle.text_document_laws.proofs.LocalLines.{goes_line}
use Rattle.text_document_laws.proofs.LocalForms.{goes_number}
use Rattle.text_document_laws.proofs.Given.{Entry}

-- errors of the lexer as those of a document
abbrev pub in_text : LexFault → InputFault
in_text f = Text (Lex f)

lexed_lift : {X : Type 0} → Lift {X = X} (λ r. lexed r)
lexed_lift {X} = lift_of {X = X} (λ r. lexed r) (λ x. refl) (λ f x e. cc)

texted_lift : {X : Type 0} → Lift {X = X} (λ r. texted r)
texted_lift {X} = lift_of {X = X} (λ r. texted r) (λ x. refl) (λ f x e. cc)

pub worded_lift : {X : Type 0} → Lift {X = X} (λ r. worded r)
worded_lift {X} = lift_of {X = X} (λ r. worded r) (λ x. refl) (λ f x e. cc)

-- a reader of the lexer that returns no value, with another type of errors
pub lexed_alone : (r : Result Reading LexFault) → lexed (alone r) ≡ alone (lexed r)
lexed_alone (Ok d) = refl
lexed_alone (Err f) = refl

pub worded_alone : (r : Result Reading LexFault) → worded (alone r) ≡ alone (worded r)
worded_alone (Ok d) = refl
worded_alone (Err f) = refl

module _ (move : Reading → Result Reading LexFault) (c : Reading) (g : Goes (moved move) c) where
  goes_lexed : Goes (moved (λ d. lexed (move d))) c
  goes_lexed = of_same (λ q. Goes q c) (λ d. lexed (alone (move d))) (moved (λ d. lexed (move d))) (λ d. lexed_alone (move d)) (goes_lifted (λ r. lexed r) lexed_lift (moved move) c g)

  pub goes_worded : Goes (moved (λ d. worded (move d))) c
  goes_worded = of_same (λ q. Goes q c) (λ d. worded (alone (move d))) (moved (λ d. worded (move d))) (λ d. worded_alone (move d)) (goes_lifted (λ r. worded r) worded_lift (moved move) c g)

-- entries
unfoldable pub gluing_test : Option Gluing → Result (Option Gluing) LexKind
gluing_test None = Err BadWord
gluing_test (Some g) = if nat_lt g.tet (2 ^ 32) then Ok (Some g) else Err NumberTooWide

unfoldable pub entry_test : List ℕ → Result (Option Gluing) LexKind
entry_test w = if same_list w (codes "-") then Ok None else gluing_test (gluing_of w)

gluing_tested : (o : Option Gluing) (c : Reading) → tested (gluing_test o) c ≡ gluing_entry o c
unfolding gluing_test
gluing_tested None c = refl
gluing_tested (Some g) c = by_test (nat_lt g.tet (2 ^ 32))
  where
    by_test : (b : Bool) → tested (if◌then◌else◌ {A = Result (Option Gluing) LexKind} b (Ok (Some g)) (Err NumberTooWide)) c ≡ if◌then◌else◌ {A = Result Entry LexFault} b (Ok (Some g, c)) (Err (word_fault c NumberTooWide))
    by_test true = refl
    by_test false = refl

entry_tested : (w : List ℕ) (c : Reading) → tested (entry_test w) c ≡ (if same_list w (codes "-") then Ok (None, c) else gluing_entry (gluing_of w) c)
unfolding entry_test
entry_tested w c = by_test (same_list w (codes "-"))
  where
    by_test : (b : Bool) → tested (if b then Ok None else gluing_test (gluing_of w)) c ≡ if◌then◌else◌ {A = Result Entry LexFault} b (Ok (None, c)) (gluing_entry (gluing_of w) c)
    by_test true = refl
    by_test false = gluing_tested (gluing_of w) c

pub entry_word : (c : Reading) → word_with entry_test c ≡ entry_at c
unfolding entry_at
entry_word c = by_word (word_at c)
  where
    by_word : (r : Result (List ℕ × Reading) LexFault) → (r >>= λ (w : List ℕ × Reading). tested (entry_test w.0) w.1)
        ≡ r >>= λ (w : List ℕ × Reading). if◌then◌else◌ {A = Result Entry LexFault} (same_list w.0 (codes "-")) (Ok (None, w.1)) (gluing_entry (gluing_of w.0) w.1)
    by_word (Ok w) = entry_tested w.0 w.1
    by_word (Err f) = refl

pub goes_entry : (c : Reading) → Goes entry_at c
goes_entry c = of_same (λ q. Goes q c) (word_with entry_test) entry_at entry_word (goes_word entry_test c)

-- rows
abbrev pub Row : Type 0
Row = tables.Row × Reading

abbrev pub fourth : Option Gluing → Option Gluing → Option Gluing → Option Gluing → Reading → Result Row LexFault
fourth e0 e1 e2 e3 c = end_line_at c >>= λ (end : Reading). Ok (e0 ∷ e1 ∷ e2 ∷ e3 ∷ [], end)

abbrev pub third : Option Gluing → Option Gluing → Option Gluing → Reading → Result Row LexFault
third e0 e1 e2 c = entry_at c >>= λ (e : Entry). fourth e0 e1 e2 e.0 e.1

abbrev pub second : Option Gluing → Option Gluing → Reading → Result Row LexFault
second e0 e1 c = entry_at c >>= λ (e : Entry). third e0 e1 e.0 e.1

abbrev pub first : Option Gluing → Reading → Result Row LexFault
first e0 c = entry_at c >>= λ (e : Entry). second e0 e.0 e.1

abbrev pub entries : Reading → Result Row LexFault
entries c = entry_at c >>= λ (e : Entry). first e.0 e.1

goes_row : (c : Reading) → Goes row_at c
unfolding row_at
goes_row c =
    goes_moved need_line_at entries c (goes_line c)
    (λ c0 p0. goes_chained entry_at first c0 (goes_entry c0)
    (λ e0 c1 p1. goes_chained entry_at (second e0) c1 (goes_entry c1)
    (λ e1 c2 p2. goes_chained entry_at (third e0 e1) c2 (goes_entry c2)
    (λ e2 c3 p3. goes_chained entry_at (fourth e0 e1 e2) c3 (goes_entry c3)
    (λ e3 c4 p4. goes_moved end_line_at (λ end. Ok (e0 ∷ e1 ∷ e2 ∷ e3 ∷ [], end)) c4 (goes_end c4) (λ end p5. goes_pure (e0 ∷ e1 ∷ e2 ∷ e3 ∷ []) end))))))

abbrev pub Rows : Type 0
Rows = List tables.Row × Reading

goes_rows : (n : ℕ) (c : Reading) → Goes (rows_at n) c
unfolding rows_at
goes_rows zero c = goes_pure [] c
goes_rows (suc n) c =
    goes_chained row_at (λ r d. rows_at n d >>= λ (rs : Rows). Ok (r ∷ rs.0, rs.1)) c (goes_row c) (λ r d e. goes_chained (rows_at n) (λ rs d'. Ok (r ∷ rs, d')) d (goes_rows n d) (λ rs last q. goes_pure (r ∷ rs) last))

-- rows that are checked: an error of the gluings has no place in the text
abbrev pub looked_at : List tables.Row → Reading → Result Rows TextFault
looked_at rows d = checked (table_fault rows) (rows, d)

goes_checked : (o : Option TableFault) (rows : List tables.Row) (c : Reading) → Goes (λ d. checked o (rows, d)) c
goes_checked None rows c = goes_pure rows c
goes_checked (Some f) rows c = λ x d e. absurd cc

abbrev pub rows_on : ℕ → Reading → Result Rows TextFault
rows_on n d = lexed (rows_at n d) >>= λ (rows : Rows). looked_at rows.0 rows.1

goes_counted : (n : ℕ) (c : Reading) → Goes (counted_rows_at n) c
unfolding counted_rows_at
goes_counted n c =
    goes_moved (λ d. lexed (end_line_at d)) (rows_on n) c (goes_lexed end_line_at c (goes_end c))
    (λ d e. goes_chained (λ b. lexed (rows_at n b)) looked_at d (goes_lifted (λ r. lexed r) lexed_lift (rows_at n) d (goes_rows n d)) (λ rows last q. goes_checked (table_fault rows) rows last))

-- what follows the word `tri`
abbrev pub if_few : Bool → ℕ → Reading → Result Rows TextFault
if_few b n d = if b then Err (Table TooMany) else counted_rows_at n d

goes_few : (b : Bool) (n : ℕ) (c : Reading) → Goes (if_few b n) c
goes_few true n c = λ x d e. absurd cc
goes_few false n c = goes_counted n c

goes_table : (c : Reading) → Goes table_at c
unfolding table_at
goes_table c =
    goes_chained (λ d. lexed (number_at limit d)) (λ n d. if_few (nat_lt max_tets n) n d) c (goes_lifted (λ r. lexed r) lexed_lift (number_at limit) c (goes_number limit c))
    (λ n d e. goes_few (nat_lt max_tets n) n d)

-- what follows the word `sig`
unfoldable pub any_text : List ℕ → Result (List ℕ) LexKind
any_text w = Ok w

pub any_word : (c : Reading) → word_with any_text c ≡ word_at c
unfolding any_text
any_word c = by_word (word_at c)
  where
    by_word : (r : Result (List ℕ × Reading) LexFault) → (r >>= λ (w : List ℕ × Reading). tested (any_text w.0) w.1) ≡ r
    by_word (Ok w) = refl
    by_word (Err f) = refl

-- the next word, if it passes a test, with the errors of a document
abbrev pub worded_word : {A : Type 0} → (List ℕ → Result A LexKind) → Reading → Result (A × Reading) InputFault
worded_word test c = worded (word_with test c)

goes_worded_word : {A : Type 0} (test : List ℕ → Result A LexKind) (c : Reading) → Goes (worded_word test) c
goes_worded_word test c = goes_lifted (λ r. worded r) worded_lift (word_with test) c (goes_word test c)

goes_decoded : (r : Result (List tables.Row) SigFault) (c : Reading) → Goes (λ d. decoded d r) c
goes_decoded (Ok rows) c = goes_pure rows c
goes_decoded (Err f) c = λ x d e. absurd cc

abbrev pub text_on : List ℕ → Reading → Result Rows InputFault
text_on w d = worded (end_line_at d) >>= λ (end : Reading). decoded end (signature_table w)

signature_named : (c : Reading) → (worded_word any_text c >>= λ (w : List ℕ × Reading). text_on w.0 w.1) ≡ signature_at c
unfolding signature_at
signature_named c = ap (λ (r : Result (List ℕ × Reading) LexFault). worded r >>= λ (w : List ℕ × Reading). text_on w.0 w.1) (any_word c)

goes_signature : (c : Reading) → Goes signature_at c
goes_signature c =
    of_same (λ q. Goes q c) (λ d. worded_word any_text d >>= λ (w : List ℕ × Reading). text_on w.0 w.1) signature_at signature_named
    (goes_chained (worded_word any_text) text_on c (goes_worded_word any_text c)
    (λ w d e. goes_moved (λ b. worded (end_line_at b)) (λ end. decoded end (signature_table w)) d (goes_worded end_line_at d (goes_end d)) (λ end q. goes_decoded (signature_table w) end)))

-- a table by its first word: true for `tri`, false for `sig`
unfoldable pub name_test : List ℕ → Result Bool LexKind
name_test w = if same_list w (codes "tri") then Ok true else (if same_list w (codes "sig") then Ok false else Err BadWord)

unfoldable pub by_name : Bool → Reading → Result Rows InputFault
by_name true c = texted (table_at c)
by_name false c = signature_at c

pub table_named : (c : Reading) → (worded_word name_test c >>= λ (b : Bool × Reading). by_name b.0 b.1) ≡ any_table_at c
unfolding any_table_at name_test by_name
table_named c = by_word (word_at c)
  where
    by_tests : (w : List ℕ × Reading) (t s : Bool) → (worded (tested (if◌then◌else◌ {A = Result Bool LexKind} t (Ok true) (if s then Ok false else Err BadWord)) w.1) >>= λ (b : Bool × Reading). by_name b.0 b.1)
        ≡ if◌then◌else◌ {A = Result Rows InputFault} t (texted (table_at w.1)) (if s then signature_at w.1 else texted (lexed (Err (word_fault w.1 BadWord))))
    by_tests w true s = refl
    by_tests w false true = refl
    by_tests w false false = refl

    by_word : (r : Result (List ℕ × Reading) LexFault) → (worded (r >>= λ (w : List ℕ × Reading). tested (name_test w.0) w.1) >>= λ (b : Bool × Reading). by_name b.0 b.1)
        ≡ worded r >>= λ (w : List ℕ × Reading). named_table_at w.0 w.1
    by_word (Ok w) = by_tests w (same_list w.0 (codes "tri")) (same_list w.0 (codes "sig"))
    by_word (Err f) = refl

goes_by_name : (b : Bool) (c : Reading) → Goes (by_name b) c
unfolding by_name
goes_by_name true c = goes_lifted (λ r. texted r) texted_lift table_at c (goes_table c)
goes_by_name false c = goes_signature c

pub goes_any_table : (c : Reading) → Goes any_table_at c
goes_any_table c = of_same (λ q. Goes q c) (λ d. worded_word name_test d >>= λ (b : Bool × Reading). by_name b.0 b.1) any_table_at table_named (goes_chained (worded_word name_test) by_name c (goes_worded_word name_test c) (λ b d e. goes_by_name b d))
