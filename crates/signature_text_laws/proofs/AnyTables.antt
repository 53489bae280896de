-- What is read in either form is a table, and fewer lines remain after it.
use Rattle.std.proofs.Common.{◌≡◌, ℕ, ◌≤◌, Bool, true, false, List, [], ◌∷◌, ◌++◌, length, length-append, refl, sym, ap, ◌∙◌, arith, Result, Ok, Err}
use Rattle.std.specs.Prelude.{codes, if◌then◌else◌}
use Rattle.text_definitions.specs.Text.{Token, word, stray, Line}
use Rattle.text_definitions.specs.declared.LexFault.{LexFault}
use Rattle.text_definitions.specs.declared.LexKind.TheVariants.{BadWord}
use Rattle.text_definitions.specs.Reading.{Reading, ◌>>=◌, need_line_at, word_at, end_from, end_line_at, exactly_at, same_word, word_fault}
use Rattle.text_definitions.proofs.Readers.{bind_ok, word_at-takes}
use Rattle.table_definitions.specs.Lists.{same_list}
use Rattle.table_definitions.specs.Table.{Row, IsTable}
use Rattle.table_definitions.specs.declared.TextFault.{TextFault}
use Rattle.table_definitions.specs.TableText.{lexed, table_at, tri_table_at}
use Rattle.table_definitions.specs.Grammar.{AreTriLines}
use Rattle.table_definitions.proofs.TableReadingLaws.{lexed_ok, tri_table_read}
use Rattle.table_definitions.proofs.ListFacts.{same_list-true}
use Rattle.signature_definitions.specs.declared.SigFault.{SigFault}
use Rattle.signature_definitions.specs.declared.InputFault.{InputFault}
use Rattle.signature_definitions.specs.SignatureText.{texted, decoded, signature_table, signature_at, named_table_at, any_table_at}
use Rattle.signature_text_laws.proofs.ReadTables.{read_spelled}

pub record ReadsTable (c : Reading) (rows : List Row) (d : Reading) : Type 0 where
  pub table : IsTable rows
  pub fewer : length d.later ≤ length c.later

pub texted_ok : {A : Type 0} (r : Result A TextFault) (x : A) → texted r ≡ Ok x → r ≡ Ok x
texted_ok (Ok y) x e = let same : y ≡ x = cc in cc
texted_ok (Err f) x e = absurd cc

-- what a reader reads is read also where its errors are those of an input
worded_ok : {A : Type 0} (r : Result A LexFault) (x : A) → texted (lexed r) ≡ Ok x → r ≡ Ok x
worded_ok r x e = lexed_ok r x (texted_ok (lexed r) x e)

pub decoded_ok : (end : Reading) (r : Result (List Row) SigFault) (rows : List Row) (d : Reading) → decoded end r ≡ Ok (rows, d) → (r ≡ Ok rows) × (end ≡ d)
decoded_ok end (Ok made) rows d e =
    let both : (made, end) ≡ (rows, d) = cc in
    (ap (λ (p : List Row × Reading). Ok p.0) both, ap (λ (p : List Row × Reading). p.1) both)
decoded_ok end (Err f) rows d e = absurd cc

end_keeps : (ts : List Token) (c d : Reading) → end_from ts c ≡ Ok d → d ≡ c
end_keeps [] c d e = let same : c ≡ d = cc in sym same
end_keeps (stray column ∷ ts) c d e = cc
end_keeps (word column w ∷ ts) c d e = cc

end_line_keeps : (c d : Reading) → end_line_at c ≡ Ok d → d ≡ c
unfolding end_line_at
end_line_keeps c d e = end_keeps c.current.tokens c d e

-- the reading before its current line is begun
abbrev unbegun : Reading → Reading
unbegun c = record c { later = c.current ∷ c.later }

line_begins : (c : Reading) → need_line_at (unbegun c) ≡ Ok c
unfolding need_line_at
line_begins c = refl

named_so : (c : Reading) (w : List ℕ × Reading) → word_at c ≡ Ok w → w.0 ≡ codes "tri" → exactly_at (codes "tri") c ≡ Ok w.1
unfolding exactly_at
named_so c w e same = ap (λ (r : Result (List ℕ × Reading) LexFault). r >>= λ (v : List ℕ × Reading). if same_word v.0 (codes "tri") then Ok v.1 else Err (word_fault v.1 BadWord)) e
    ∙ ap (λ (v : List ℕ). if◌then◌else◌ {A = Result Reading LexFault} (same_word v (codes "tri")) (Ok w.1) (Err (word_fault w.1 BadWord))) same

tri_read_at : (c : Reading) (w : List ℕ × Reading) (rows : List Row) (d : Reading) → word_at c ≡ Ok w → w.0 ≡ codes "tri" → table_at w.1 ≡ Ok (rows, d)
    → tri_table_at (unbegun c) ≡ Ok (rows, d)
unfolding tri_table_at
tri_read_at c w rows d e same t =
    ap (λ (r : Result Reading LexFault). lexed r >>= λ (x : Reading). lexed (exactly_at (codes "tri") x) >>= λ (y : Reading). table_at y) (line_begins c)
    ∙ ap (λ (r : Result Reading LexFault). lexed r >>= λ (y : Reading). table_at y) (named_so c w e same) ∙ t

tri_lines : (lines : List Line) (rows : List Row) → AreTriLines lines rows → (1 ≤ length lines) × IsTable rows
tri_lines [] rows t = absurd t
tri_lines (l ∷ ls) rows t = (omega arith, t.4)

tri_read : (c : Reading) (w : List ℕ × Reading) (rows : List Row) (d : Reading) → word_at c ≡ Ok w → w.0 ≡ codes "tri" → table_at w.1 ≡ Ok (rows, d) → ReadsTable c rows d
tri_read c w rows d e same t =
    let r = tri_table_read (unbegun c) rows d (tri_read_at c w rows d e same t) in
    let found = tri_lines r.lines rows r.table in
    let n : length (c.current ∷ c.later) ≡ length (r.lines ++ d.later) = ap length r.split in
    record { table = found.1; fewer = let some = found.0 in omega (arith, n, length-append r.lines d.later) }

sig_read : (c : Reading) (w : List ℕ × Reading) (rows : List Row) (d : Reading) → word_at c ≡ Ok w → signature_at w.1 ≡ Ok (rows, d) → ReadsTable c rows d
unfolding signature_at
sig_read c w rows d e t =
    let first = bind_ok (texted (lexed (word_at w.1))) (λ (v : List ℕ × Reading). texted (lexed (end_line_at v.1)) >>= λ (end : Reading). decoded end (signature_table v.0)) (rows, d) t in
    let second = bind_ok (texted (lexed (end_line_at (first.0).1))) (λ (end : Reading). decoded end (signature_table (first.0).0)) (rows, d) first.2 in
    let made = decoded_ok second.0 (signature_table (first.0).0) rows d second.2 in
    let here = word_at-takes c w e in
    let there = word_at-takes w.1 first.0 (worded_ok (word_at w.1) first.0 first.1) in
    let end : second.0 ≡ (first.0).1 = end_line_keeps (first.0).1 second.0 (worded_ok (end_line_at (first.0).1) second.0 second.1) in
    let left : d.later ≡ c.later = ap (λ (x : Reading). x.later) (sym made.1 ∙ end) ∙ there.later ∙ here.later in
    record { table = (read_spelled (first.0).0 rows made.0).table; fewer = omega (arith, ap length left) }

named_read : (c : Reading) (w : List ℕ × Reading) (rows : List Row) (d : Reading) → word_at c ≡ Ok w → named_table_at w.0 w.1 ≡ Ok (rows, d) → ReadsTable c rows d
named_read c w rows d e t = by (same_list w.0 (codes "tri")) refl t
  where
    other : (b : Bool) → if◌then◌else◌ {A = Result (List Row × Reading) InputFault} b (signature_at w.1) (texted (lexed (Err (word_fault w.1 BadWord)))) ≡ Ok (rows, d) → ReadsTable c rows d
    other true f = sig_read c w rows d e f
    other false f = absurd cc

    by : (b : Bool) → same_list w.0 (codes "tri") ≡ b
        → if◌then◌else◌ {A = Result (List Row × Reading) InputFault} b (texted (table_at w.1))
        (if same_list w.0 (codes "sig") then signature_at w.1 else texted (lexed (Err (word_fault w.1 BadWord)))) ≡ Ok (rows, d) → ReadsTable c rows d
    by true same f = tri_read c w rows d e (same_list-true w.0 (codes "tri") same) (texted_ok (table_at w.1) (rows, d) f)
    by false same f = other (same_list w.0 (codes "sig")) f

pub any_table_read : (c : Reading) (rows : List Row) (d : Reading) → any_table_at c ≡ Ok (rows, d) → ReadsTable c rows d
unfolding any_table_at
any_table_read c rows d t =
    let first = bind_ok (texted (lexed (word_at c))) (λ (w : List ℕ × Reading). named_table_at w.0 w.1) (rows, d) t in
    named_read c first.0 rows d (worded_ok (word_at c) first.0 first.1) first.2
