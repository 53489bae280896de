-- The text of a table is read if and only if the next lines have its form.
use Rattle.std.proofs.Common.{◌≡◌, ℕ, zero, suc, Bool, true, false, List, [], ◌∷◌, ◌++◌, length, Result, Ok, inl, inr, refl, sym, ap, ◌∙◌, subst}
use Rattle.std.specs.Prelude.{⊤, codes}
use Rattle.std.specs.List.{AllZip, AllByRecursion}
use Rattle.text_definitions.specs.declared.LexFault.{LexFault}
use Rattle.text_definitions.specs.Text.{Token, word, Line}
use Rattle.text_definitions.specs.Reading.{Reading, ◌>>=◌, begun, number_at, need_line_at, end_line_at}
use Rattle.text_definitions.proofs.Readers.{bind_ok}
use Rattle.table_definitions.specs.Table.{max_tets, Row}
use Rattle.table_definitions.specs.Grammar.{AreWords, IsDecimalUpTo, IsEntry, IsRowLine, AreTriLines}
use Rattle.table_definitions.proofs.ReadingLaws.{ok_parts, with_tokens, behind, TakesNumber, number_read, one_number}
use Rattle.table_definitions.proofs.LineLaws.{BeginsLine, line_begun, line_found, line_ended, end_found, FirstWord, first_word, no_words}
use Rattle.text_document_definitions.specs.TextForms.{IsRowText, AreTriText, AreTableText}
use Rattle.signature_definitions.specs.Grammar.{AreTableLines}
use Rattle.text_document_laws.specs.FormLaws.{HaveForm}
use Rattle.text_document_laws.proofs.Blocks.{ReadsBlocks}
use Rattle.text_document_laws.proofs.Local.{alone, alone_ok, moved}
use Rattle.text_document_laws.proofs.LocalWords.{word_with}
use Rattle.text_document_laws.proofs.LocalTables.{entry_test, any_text, name_test}
use Rattle.text_document_laws.proofs.TextReaders.{Read, words_at, row_text, row_line, rows_text, counted_text, tri_text, sig_text, text_named, text_at, next_text}
use Rattle.text_document_laws.proofs.TextWords.{Passes, word_passed, word_put, WordsTaken, words_taken, words_given, entries_of, entries_pass, name_passed}

pub begins : (c : Reading) (u : ⊤) (b : Reading) → moved need_line_at c ≡ Ok (u, b) → BeginsLine c b
begins c u b e = line_begun c b (alone_ok (need_line_at c) u b e)

pub next_found : (c : Reading) (l : Line) (ls : List Line) → c.later ≡ l ∷ ls → moved need_line_at c ≡ Ok (tt, begun l ls c)
next_found c l ls e = ap (λ (r : Result Reading LexFault). alone r) (line_found c l ls e)

-- a row
row_of : (c d : Reading) → WordsTaken entry_test 4 c d → IsRowText c.current
row_of c d t =
    let o : (row : Row) × AllZip IsEntry t.ws row × (length row ≡ length t.ws) = entries_of t.ws t.pass in
    (o.0, record { ws = t.ws; are_words = t.are_words; entries = o.1; four_faces = o.2 ∙ t.many })

row_given : (c : Reading) → IsRowText c.current → (d : Reading) × (row_text c ≡ Ok (tt, d)) × (d.later ≡ c.later)
row_given c (row, h) =
    let p = entries_pass h.ws row h.entries in
    let g : (d : Reading) × (words_at entry_test (length h.ws) c ≡ Ok (tt, d)) × (d.later ≡ c.later) = words_given entry_test h.ws c h.are_words p.0 in
    (g.0, ap (λ (n : ℕ). words_at entry_test n c) (sym (p.1 ∙ h.four_faces)) ∙ g.1, g.2)

-- rows
record RowsTaken (n : ℕ) (c d : Reading) : Type 0 where
  lines : List Line
  split : c.later ≡ lines ++ d.later
  forms : AllByRecursion IsRowText lines
  many : length lines ≡ n

row_joined : (n : ℕ) (c b e d : Reading) → BeginsLine c b → WordsTaken entry_test 4 b e → RowsTaken n e d → RowsTaken (suc n) c d
row_joined n c b e d l t r =
    let later : e.later ≡ l.rest = t.later ∙ ap (λ (q : Reading). q.later) l.left in
    record {
      lines = l.line ∷ r.lines;
      split = l.lines ∙ ap (λ (ls : List Line). l.line ∷ ls) (sym later ∙ r.split);
      forms = (subst (λ (q : Reading). IsRowText q.current) l.left (row_of b e t), r.forms);
      many = ap (λ (m : ℕ). suc m) r.many;
    }

none_taken : (c : Reading) (u : ⊤) (d : Reading) → rows_text 0 c ≡ Ok (u, d) → RowsTaken 0 c d
unfolding rows_text
none_taken c u d e = (let parts : (tt ≡ u) × (c ≡ d) = ok_parts (tt, c) (u, d) e in record { lines = []; split = ap (λ (r : Reading). r.later) parts.1; forms = tt; many = refl })

rows_taken : (n : ℕ) (c : Reading) (u : ⊤) (d : Reading) → rows_text n c ≡ Ok (u, d) → RowsTaken n c d
unfolding rows_text
rows_taken zero c u d e = none_taken c u d e
rows_taken (suc n) c u d e =
    let b1 : (x : ⊤ × Reading) × (row_line c ≡ Ok x) × (rows_text n x.1 ≡ Ok (u, d)) = bind_ok (row_line c) (λ (x : ⊤ × Reading). rows_text n x.1) (u, d) e in
    let b2 : (y : ⊤ × Reading) × (moved need_line_at c ≡ Ok y) × (row_text y.1 ≡ Ok b1.0) = bind_ok (moved need_line_at c) (λ (y : ⊤ × Reading). row_text y.1) b1.0 b1.1 in
    row_joined n c (b2.0).1 (b1.0).1 d (begins c (b2.0).0 (b2.0).1 b2.1) (words_taken entry_test 4 (b2.0).1 (b1.0).0 (b1.0).1 b2.2) (rows_taken n (b1.0).1 u d b1.2)

abbrev RowsGiven : ℕ → Reading → List Line → Type 0
RowsGiven n c rest = (d : Reading) × (rows_text n c ≡ Ok (tt, d)) × (d.later ≡ rest)

row_on : (n : ℕ) (c : Reading) (l : Line) (ls rest : List Line) (e : Reading) → c.later ≡ l ∷ ls → row_text (begun l ls c) ≡ Ok (tt, e) → RowsGiven n e rest → RowsGiven (suc n) c rest
unfolding rows_text
row_on n c l ls rest e split row g = (
  g.0,
  ap (λ (r : Read). (r >>= λ (u : ⊤ × Reading). row_text u.1) >>= λ (x : ⊤ × Reading). rows_text n x.1) (next_found c l ls split) ∙ ap (λ (r : Read). r >>= λ (x : ⊤ × Reading). rows_text n x.1) row ∙ g.1,
  g.2,
)

no_rows : (c : Reading) (rest : List Line) → c.later ≡ rest → RowsGiven 0 c rest
unfolding rows_text
no_rows c rest split = (c, refl, split)

rows_given : (lines rest : List Line) (c : Reading) → c.later ≡ lines ++ rest → AllByRecursion IsRowText lines → RowsGiven (length lines) c rest
rows_given [] rest c split h = no_rows c rest split
rows_given (l ∷ lines) rest c split h =
    let row : (d : Reading) × (row_text (begun l (lines ++ rest) c) ≡ Ok (tt, d)) × (d.later ≡ lines ++ rest) = row_given (begun l (lines ++ rest) c) h.0 in
    row_on (length lines) c l (lines ++ rest) rest row.0 split row.1 (rows_given lines rest row.0 row.2 h.1)

-- what follows the word `tri`
record TriTaken (c d : Reading) : Type 0 where
  column : ℕ
  n : List ℕ
  tokens : c.current.tokens ≡ word column n ∷ []
  lines : List Line
  number : IsDecimalUpTo max_tets n (length lines)
  split : c.later ≡ lines ++ d.later
  forms : AllByRecursion IsRowText lines

tri_joined : (c b e d : Reading) (n : ℕ) → TakesNumber max_tets c.current.tokens c n b → (b.current.tokens ≡ []) × (e ≡ with_tokens [] b) → RowsTaken n e d → TriTaken c d
tri_joined c b e d n t l r =
    let rest : t.word.rest ≡ [] = ap (λ (q : Reading). q.current.tokens) (sym t.word.left) ∙ l.0 in
    let later : e.later ≡ c.later = ap (λ (q : Reading). q.later) l.1 ∙ ap (λ (q : Reading). q.later) t.word.left in
    record {
      column = t.word.column;
      n = t.w;
      tokens = t.word.tokens ∙ ap (λ (ts : List Token). word t.word.column t.w ∷ ts) rest;
      lines = r.lines;
      number = subst (λ (m : ℕ). IsDecimalUpTo max_tets t.w m) (sym r.many) t.number;
      split = sym later ∙ r.split;
      forms = r.forms;
    }

tri_taken : (c : Reading) (u : ⊤) (d : Reading) → tri_text c ≡ Ok (u, d) → TriTaken c d
tri_taken c u d e =
    let b1 : (n : ℕ × Reading) × (number_at max_tets c ≡ Ok n) × (counted_text n.0 n.1 ≡ Ok (u, d)) = bind_ok (number_at max_tets c) (λ (n : ℕ × Reading). counted_text n.0 n.1) (u, d) e in
    let b2 : (x : ⊤ × Reading) × (moved end_line_at (b1.0).1 ≡ Ok x) × (rows_text (b1.0).0 x.1 ≡ Ok (u, d)) = bind_ok (moved end_line_at (b1.0).1) (λ (x : ⊤ × Reading). rows_text (b1.0).0 x.1) (u, d) b1.2 in
    tri_joined c (b1.0).1 (b2.0).1 d (b1.0).0 (number_read max_tets c.current.tokens c (b1.0).0 (b1.0).1 b1.1)
    (line_ended (b1.0).1.current.tokens (b1.0).1 (b2.0).1 (alone_ok (end_line_at (b1.0).1) (b2.0).0 (b2.0).1 b2.1)) (rows_taken (b1.0).0 (b2.0).1 u d b2.2)

abbrev Given : (Reading → Read) → Reading → List Line → Type 0
Given read c rest = (d : Reading) × (read c ≡ Ok (tt, d)) × (d.later ≡ rest)

tri_given : (c : Reading) (n : List ℕ) (lines rest : List Line) → AreWords c.current.tokens (n ∷ []) → IsDecimalUpTo max_tets n (length lines) → AllByRecursion IsRowText lines → c.later ≡ lines ++ rest → Given tri_text c rest
tri_given c n lines rest a number forms split =
    let f : FirstWord c.current.tokens n [] = first_word c.current.tokens n [] a in
    let b : Reading = with_tokens f.rest (behind f.column c) in
    let read : number_at max_tets c ≡ Ok (length lines, b) =
    ap (λ (ts : List Token). number_at max_tets (with_tokens ts c)) f.tokens ∙ one_number max_tets f.column n (length lines) f.rest c number in
    let r : RowsGiven (length lines) (with_tokens [] b) rest = rows_given lines rest (with_tokens [] b) split forms in (
      r.0,
      ap (λ (q : Result (ℕ × Reading) LexFault). q >>= λ (n : ℕ × Reading). counted_text n.0 n.1) read
          ∙ ap (λ (q : Result Reading LexFault). alone q >>= λ (x : ⊤ × Reading). rows_text (length lines) x.1) (end_found f.rest b (no_words f.rest f.others)) ∙ r.1,
      r.2,
    )

-- what follows the word `sig`
record SigTaken (c d : Reading) : Type 0 where
  column : ℕ
  text : List ℕ
  tokens : c.current.tokens ≡ word column text ∷ []
  later : d.later ≡ c.later

sig_taken : (c : Reading) (u : ⊤) (d : Reading) → sig_text c ≡ Ok (u, d) → SigTaken c d
sig_taken c u d e =
    let b1 : (w : List ℕ × Reading) × (word_with any_text c ≡ Ok w) × (moved end_line_at w.1 ≡ Ok (u, d)) = bind_ok (word_with any_text c) (λ (w : List ℕ × Reading). moved end_line_at w.1) (u, d) e in
    let p : Passes any_text c (b1.0).0 (b1.0).1 = word_passed any_text c (b1.0).0 (b1.0).1 b1.1 in
    let l : ((b1.0).1.current.tokens ≡ []) × (d ≡ with_tokens [] (b1.0).1) = line_ended (b1.0).1.current.tokens (b1.0).1 d (alone_ok (end_line_at (b1.0).1) u d b1.2) in
    let rest : p.rest ≡ [] = ap (λ (q : Reading). q.current.tokens) (sym p.left) ∙ l.0 in
    record {
      column = p.column;
      text = p.w;
      tokens = p.tokens ∙ ap (λ (ts : List Token). word p.column p.w ∷ ts) rest;
      later = ap (λ (q : Reading). q.later) l.1 ∙ ap (λ (q : Reading). q.later) p.left;
    }

sig_given : (c : Reading) (text : List ℕ) (rest : List Line) → AreWords c.current.tokens (text ∷ []) → c.later ≡ rest → Given sig_text c rest
unfolding any_text
sig_given c text rest a split =
    let f : FirstWord c.current.tokens text [] = first_word c.current.tokens text [] a in
    let b : Reading = with_tokens f.rest (behind f.column c) in (
      with_tokens [] b,
      ap (λ (q : Result (List ℕ × Reading) LexFault). q >>= λ (w : List ℕ × Reading). moved end_line_at w.1) (word_put any_text c f.column text f.rest text f.tokens refl)
          ∙ ap (λ (q : Result Reading LexFault). alone q) (end_found f.rest b (no_words f.rest f.others)),
      split,
    )

-- the text of a table from the current line on
record TextTaken (c d : Reading) : Type 0 where
  lines : List Line
  split : c.later ≡ lines ++ d.later
  text : AreTableText (c.current ∷ lines)

tri_named : (c b d : Reading) → Passes name_test c true b → TriTaken b d → TextTaken c d
tri_named c b d p t =
    let rest : p.rest ≡ word t.column t.n ∷ [] = ap (λ (q : Reading). q.current.tokens) (sym p.left) ∙ t.tokens in
    let tokens : c.current.tokens ≡ word p.column p.w ∷ word t.column t.n ∷ [] = p.tokens ∙ ap (λ (ts : List Token). word p.column p.w ∷ ts) rest in
    let all : AreWords (word p.column p.w ∷ word t.column t.n ∷ []) (codes "tri" ∷ t.n ∷ []) = (name_passed p.w true p.passed, (refl, tt)) in
    record {
      lines = t.lines;
      split = ap (λ (q : Reading). q.later) (sym p.left) ∙ t.split;
      text = inl (t.n, subst (λ (ts : List Token). AreWords ts (codes "tri" ∷ t.n ∷ [])) (sym tokens) all, t.number, t.forms);
    }

sig_named : (c b d : Reading) → Passes name_test c false b → SigTaken b d → TextTaken c d
sig_named c b d p t =
    let rest : p.rest ≡ word t.column t.text ∷ [] = ap (λ (q : Reading). q.current.tokens) (sym p.left) ∙ t.tokens in
    let tokens : c.current.tokens ≡ word p.column p.w ∷ word t.column t.text ∷ [] = p.tokens ∙ ap (λ (ts : List Token). word p.column p.w ∷ ts) rest in
    let all : AreWords (word p.column p.w ∷ word t.column t.text ∷ []) (codes "sig" ∷ t.text ∷ []) = (name_passed p.w false p.passed, (refl, tt)) in
    record {
      lines = [];
      split = ap (λ (q : Reading). q.later) (sym p.left) ∙ sym t.later;
      text = inr (t.text, subst (λ (ts : List Token). AreWords ts (codes "sig" ∷ t.text ∷ [])) (sym tokens) all);
    }

by_name : (b : Bool) (c e : Reading) (u : ⊤) (d : Reading) → Passes name_test c b e → text_named b e ≡ Ok (u, d) → TextTaken c d
unfolding text_named
by_name true c e u d p r = tri_named c e d p (tri_taken e u d r)
by_name false c e u d p r = sig_named c e d p (sig_taken e u d r)

pub text_taken : (c : Reading) (u : ⊤) (d : Reading) → text_at c ≡ Ok (u, d) → (lines : List Line) × (c.later ≡ lines ++ d.later) × AreTableText (c.current ∷ lines)
text_taken c u d e =
    let b1 : (b : Bool × Reading) × (word_with name_test c ≡ Ok b) × (text_named b.0 b.1 ≡ Ok (u, d)) = bind_ok (word_with name_test c) (λ (b : Bool × Reading). text_named b.0 b.1) (u, d) e in
    let t : TextTaken c d = by_name (b1.0).0 c (b1.0).1 u d (word_passed name_test c (b1.0).0 (b1.0).1 b1.1) b1.2 in
    (t.lines, t.split, t.text)

pub tri_passes : name_test (codes "tri") ≡ Ok true
unfolding name_test
tri_passes = refl

sig_passes : name_test (codes "sig") ≡ Ok false
unfolding name_test
sig_passes = refl

name_put : (b : Bool) (w : List ℕ) (ws : List (List ℕ)) (c : Reading) (rest : List Line) → name_test w ≡ Ok b → (f : FirstWord c.current.tokens w ws) → Given (text_named b) (with_tokens f.rest (behind f.column c)) rest → Given text_at c rest
name_put b w ws c rest passed f g = (g.0, ap (λ (q : Result (Bool × Reading) LexFault). q >>= λ (b : Bool × Reading). text_named b.0 b.1) (word_put name_test c f.column w f.rest b f.tokens passed) ∙ g.1, g.2)

pub text_given : (c : Reading) (lines rest : List Line) → c.later ≡ lines ++ rest → AreTableText (c.current ∷ lines) → Given text_at c rest
unfolding text_named
text_given c lines rest split (inl (n, a, number, forms)) =
    let f : FirstWord c.current.tokens (codes "tri") (n ∷ []) = first_word c.current.tokens (codes "tri") (n ∷ []) a in
    name_put true (codes "tri") (n ∷ []) c rest tri_passes f (tri_given (with_tokens f.rest (behind f.column c)) n lines rest f.others number forms split)
text_given c [] rest split (inr (text, a)) =
    let f : FirstWord c.current.tokens (codes "sig") (text ∷ []) = first_word c.current.tokens (codes "sig") (text ∷ []) a in
    name_put false (codes "sig") (text ∷ []) c rest sig_passes f (sig_given (with_tokens f.rest (behind f.column c)) text rest f.others split)
text_given c (l ∷ lines) rest split (inr h) = absurd h

-- and on the next lines
abbrev pub IsText : List Line → ⊤ → Type 0
IsText lines u = AreTableText lines

next_taken : (c : Reading) (u : ⊤) (d : Reading) → next_text c ≡ Ok (u, d) → (lines : List Line) × (c.later ≡ lines ++ d.later) × IsText lines u
next_taken c u d e =
    let b1 : (x : ⊤ × Reading) × (moved need_line_at c ≡ Ok x) × (text_at x.1 ≡ Ok (u, d)) = bind_ok (moved need_line_at c) (λ (x : ⊤ × Reading). text_at x.1) (u, d) e in
    joined (b1.0).1 (begins c (b1.0).0 (b1.0).1 b1.1) (text_taken (b1.0).1 u d b1.2)
  where
    joined : (b : Reading) → BeginsLine c b → (lines : List Line) × (b.later ≡ lines ++ d.later) × AreTableText (b.current ∷ lines) → (lines : List Line) × (c.later ≡ lines ++ d.later) × IsText lines u
    joined b l t = (
      l.line ∷ t.0,
      l.lines ∙ ap (λ (ls : List Line). l.line ∷ ls) (ap (λ (q : Reading). q.later) (sym l.left) ∙ t.1),
      subst (λ (q : Reading). AreTableText (q.current ∷ t.0)) l.left t.2,
    )

next_given : (c : Reading) (u : ⊤) (lines rest : List Line) → c.later ≡ lines ++ rest → IsText lines u → (d : Reading) × (next_text c ≡ Ok (u, d)) × (d.later ≡ rest)
next_given c u [] rest split (inl h) = absurd h
next_given c u [] rest split (inr h) = absurd h
next_given c u (l ∷ lines) rest split h =
    let t : Given text_at (begun l (lines ++ rest) c) rest = text_given (begun l (lines ++ rest) c) lines rest refl h in
    (t.0, ap (λ (q : Read). q >>= λ (x : ⊤ × Reading). text_at x.1) (next_found c l (lines ++ rest) split) ∙ t.1, t.2)

pub text_blocks : ReadsBlocks next_text IsText
text_blocks = record { sound = next_taken; complete = next_given }

-- the lines of a table have its text
rows_have_text : (lines : List Line) (rows : List Row) → AllZip IsRowLine lines rows → AllByRecursion IsRowText lines × (length rows ≡ length lines)
rows_have_text [] [] z = (tt, refl)
rows_have_text [] (row ∷ rows) z = absurd z
rows_have_text (l ∷ lines) [] z = absurd z
rows_have_text (l ∷ lines) (row ∷ rows) z =
    let m : AllByRecursion IsRowText lines × (length rows ≡ length lines) = rows_have_text lines rows z.1 in
    (((row, z.0), m.0), ap (λ (n : ℕ). suc n) m.1)

tri_has_text : (lines : List Line) (rows : List Row) → AreTriLines lines rows → AreTriText lines
tri_has_text [] rows h = h
tri_has_text (l ∷ lines) rows (n, a, value, z, table) =
    let m : AllByRecursion IsRowText lines × (length rows ≡ length lines) = rows_have_text lines rows z in
    (n, a, subst (λ (k : ℕ). IsDecimalUpTo max_tets n k) m.1 (record { value = value; up_to = table.limited }), m.0)

pub tables_have_text : HaveForm AreTableLines AreTableText
tables_have_text lines rows (inl h) = inl (tri_has_text lines rows h)
tables_have_text [] rows (inr h) = absurd h
tables_have_text (l ∷ []) rows (inr (text, a, spells)) = inr (text, a)
tables_have_text (l ∷ m ∷ lines) rows (inr h) = absurd h
