-- A table in either form is read if and only if the next lines are one.
use Rattle.std.proofs.Common.{◌≡◌, ℕ, Bool, true, false, List, [], ◌∷◌, ◌++◌, Result, Ok, Err, inl, inr, refl, sym, ap, ◌∙◌, subst}
use Rattle.std.specs.Prelude.{codes, if◌then◌else◌}
use Rattle.text_definitions.specs.Text.{Token, word, Line}
use Rattle.text_definitions.specs.declared.LexKind.TheVariants.{BadWord}
use Rattle.text_definitions.specs.declared.LexFault.{LexFault}
use Rattle.text_definitions.specs.Reading.{Reading, ◌>>=◌, begun, need_line_at, word_at, end_line_at, exactly_at, same_word, word_fault}
use Rattle.text_definitions.proofs.Readers.{bind_ok}
use Rattle.table_definitions.specs.Lists.{same_list}
use Rattle.table_definitions.specs.Table.{Row}
use Rattle.table_definitions.specs.declared.TextFault.{TextFault}
use Rattle.table_definitions.specs.TableText.{lexed, table_at, tri_table_at}
use Rattle.table_definitions.specs.Grammar.{AreWords}
use Rattle.table_definitions.specs.Laws.{ReadsTriTable}
use Rattle.signature_definitions.specs.declared.InputFault.{InputFault}
use Rattle.signature_definitions.specs.declared.SigFault.{SigFault}
use Rattle.signature_definitions.specs.SignatureText.{texted, decoded, signature_table, signature_at, named_table_at, any_table_at}
use Rattle.signature_definitions.specs.Grammar.{AreTableLines}
use Rattle.text_document_definitions.specs.Documents.{worded, no_line_at, next_table_at}
use Rattle.table_definitions.proofs.ReadingLaws.{with_tokens, behind, TakesWord, word_taken}
use Rattle.table_definitions.proofs.TableReadingLaws.{lexed_ok, TriTableRead, tri_table_read}
use Rattle.table_definitions.proofs.TableFoundLaws.{lexed_with, tri_table_found}
use Rattle.table_definitions.proofs.ListFacts.{same_list-true}
use Rattle.table_definitions.proofs.LineLaws.{BeginsLine, line_begun, line_found, line_ended, FirstWord, first_word, no_words}
use Rattle.signature_text_laws.proofs.ReadTables.{read_spelled}
use Rattle.signature_text_laws.proofs.SpelledTables.{spelled_read}
use Rattle.text_document_laws.proofs.Blocks.{ReadsBlocks, ReadsEnd}
use Rattle.text_document_laws.proofs.Given.{Table}
use Rattle.signature_text_laws.proofs.AnyTables.{texted_ok, decoded_ok}

pub texted_with : {A : Type 0} (r : Result A TextFault) (x : A) → r ≡ Ok x → texted r ≡ Ok x
texted_with {A} r x e = ap (λ (q : Result A TextFault). texted q) e

pub worded_ok : {A : Type 0} (r : Result A LexFault) (x : A) → worded r ≡ Ok x → r ≡ Ok x
worded_ok r x e = lexed_ok r x (texted_ok (lexed r) x e)

pub worded_with : {A : Type 0} (r : Result A LexFault) (x : A) → r ≡ Ok x → worded r ≡ Ok x
worded_with r x e = texted_with (lexed r) x (lexed_with r x e)

pub worded_end : ReadsEnd (λ c. worded (no_line_at c))
worded_end = record { sound = λ c d e. worded_ok (no_line_at c) d e; complete = λ c d e. worded_with (no_line_at c) d e }

-- the lines of a table that was read, to the end of the last of them
pub record TableLines (c : Reading) (rows : List Row) (d : Reading) : Type 0 where
  pub lines : List Line
  pub split : c.later ≡ lines ++ d.later
  pub table_lines : AreTableLines lines rows
  pub at_end : d.current.tokens ≡ []

-- a table whose first word is `tri` is read as in this form alone
tri_of_parts : (c x : Reading) (w : List ℕ) (next : Reading) (t : Table) → need_line_at c ≡ Ok x → word_at x ≡ Ok (w, next) → same_word w (codes "tri") ≡ true → table_at next ≡ Ok t → tri_table_at c ≡ Ok t
unfolding tri_table_at exactly_at
tri_of_parts c x w next t e1 e2 e3 e4 =
    let named : exactly_at (codes "tri") x ≡ Ok next =
    ap (λ (r : Result (List ℕ × Reading) LexFault). r >>= λ (v : List ℕ × Reading). if same_word v.0 (codes "tri") then Ok v.1 else Err (word_fault v.1 BadWord)) e2
    ∙ ap (λ (b : Bool). if◌then◌else◌ {A = Result Reading LexFault} b (Ok next) (Err (word_fault next BadWord))) e3 in
    ap (λ (r : Result Reading TextFault). r >>= λ (y : Reading). lexed (exactly_at (codes "tri") y) >>= λ (z : Reading). table_at z) (lexed_with (need_line_at c) x e1)
    ∙ ap (λ (r : Result Reading TextFault). r >>= λ (z : Reading). table_at z) (lexed_with (exactly_at (codes "tri") x) next named) ∙ e4

same_word_of : (w v : List ℕ) → same_list w v ≡ true → same_word w v ≡ true
same_word_of w v e = e

sig_lines : (c x : Reading) (w : List ℕ) (next : Reading) (rows : List Row) (d : Reading) (text : List ℕ) (behind_text last : Reading) → BeginsLine c x → (a : TakesWord x.current.tokens x w next) → w ≡ codes "sig"
    → (b : TakesWord a.rest (behind a.column x) text behind_text) → (b.rest ≡ []) × (last ≡ with_tokens [] (behind b.column (behind a.column x))) → signature_table text ≡ Ok rows → last ≡ d → TableLines c rows d
sig_lines c x w next rows d text behind_text last l a named b ended table same =
    let all : AreWords (word a.column w ∷ word b.column text ∷ []) (codes "sig" ∷ text ∷ []) = (named, (refl, tt)) in
    let tokens : x.current.tokens ≡ word a.column w ∷ word b.column text ∷ [] = a.tokens ∙ ap (λ (ts : List Token). word a.column w ∷ ts) (b.tokens ∙ ap (λ (ts : List Token). word b.column text ∷ ts) ended.0) in
    let here : AreWords x.current.tokens (codes "sig" ∷ text ∷ []) = subst (λ (ts : List Token). AreWords ts (codes "sig" ∷ text ∷ [])) (sym tokens) all in
    record {
      lines = l.line ∷ [];
      split = l.lines ∙ ap (λ (ls : List Line). l.line ∷ ls) (ap (λ (r : Reading). r.later) (sym l.left) ∙ ap (λ (r : Reading). r.later) (sym ended.1) ∙ ap (λ (r : Reading). r.later) same);
      table_lines = inr (text, subst (λ (r : Reading). AreWords r.current.tokens (codes "sig" ∷ text ∷ [])) l.left here, read_spelled text rows table);
      at_end = ap (λ (r : Reading). r.current.tokens) (sym same ∙ ended.1);
    }

sig_read : (c x : Reading) (w : List ℕ) (next : Reading) (rows : List Row) (d : Reading) → BeginsLine c x → TakesWord x.current.tokens x w next → w ≡ codes "sig" → signature_at next ≡ Ok (rows, d) → TableLines c rows d
unfolding signature_at
sig_read c x w next rows d l a named e =
    let b1 : (v : List ℕ × Reading) × (worded (word_at next) ≡ Ok v) × ((worded (end_line_at v.1) >>= λ (end : Reading). decoded end (signature_table v.0)) ≡ Ok (rows, d)) =
    bind_ok (worded (word_at next)) (λ (v : List ℕ × Reading). worded (end_line_at v.1) >>= λ (end : Reading). decoded end (signature_table v.0)) (rows, d) e in
    let b2 : (end : Reading) × (worded (end_line_at (b1.0).1) ≡ Ok end) × (decoded end (signature_table (b1.0).0) ≡ Ok (rows, d)) =
    bind_ok (worded (end_line_at (b1.0).1)) (λ (end : Reading). decoded end (signature_table (b1.0).0)) (rows, d) b1.2 in
    let b3 : (signature_table (b1.0).0 ≡ Ok rows) × (b2.0 ≡ d) = decoded_ok b2.0 (signature_table (b1.0).0) rows d b2.2 in
    let taken : word_at (with_tokens a.rest (behind a.column x)) ≡ Ok ((b1.0).0, (b1.0).1) = subst (λ (r : Reading). word_at r ≡ Ok ((b1.0).0, (b1.0).1)) a.left (worded_ok (word_at next) b1.0 b1.1) in
    let b : TakesWord a.rest (behind a.column x) (b1.0).0 (b1.0).1 = word_taken a.rest (behind a.column x) (b1.0).0 (b1.0).1 taken in
    let ended : (b.rest ≡ []) × (b2.0 ≡ with_tokens [] (behind b.column (behind a.column x))) =
    line_ended b.rest (behind b.column (behind a.column x)) b2.0 (subst (λ (r : Reading). end_line_at r ≡ Ok b2.0) b.left (worded_ok (end_line_at (b1.0).1) b2.0 b2.1)) in
    sig_lines c x w next rows d (b1.0).0 (b1.0).1 b2.0 l a named b ended b3.0 b3.1

-- a table by its first word
abbrev by_name : (t s : Bool) → Reading → Result Table InputFault
by_name t s c = if t then texted (table_at c) else (if s then signature_at c else texted (lexed (Err (word_fault c BadWord))))

table_by_name : (c x : Reading) (w : List ℕ) (next : Reading) (rows : List Row) (d : Reading) → need_line_at c ≡ Ok x → word_at x ≡ Ok (w, next) → (t s : Bool) → same_list w (codes "tri") ≡ t → same_list w (codes "sig") ≡ s
    → by_name t s next ≡ Ok (rows, d) → TableLines c rows d
table_by_name c x w next rows d e1 e2 true s p q e =
    let r : TriTableRead c rows d = tri_table_read c rows d (tri_of_parts c x w next (rows, d) e1 e2 (same_word_of w (codes "tri") p) (texted_ok (table_at next) (rows, d) e)) in
    record { lines = r.lines; split = r.split; table_lines = inl r.table; at_end = r.at_end }
table_by_name c x w next rows d e1 e2 false true p q e = sig_read c x w next rows d (line_begun c x e1) (word_taken x.current.tokens x w next e2) (same_list-true w (codes "sig") q) e
table_by_name c x w next rows d e1 e2 false false p q e = absurd cc

pub table_read : (c : Reading) (rows : List Row) (d : Reading) → next_table_at c ≡ Ok (rows, d) → TableLines c rows d
unfolding next_table_at any_table_at
table_read c rows d e =
    let b1 : (x : Reading) × (worded (need_line_at c) ≡ Ok x) × (any_table_at x ≡ Ok (rows, d)) = bind_ok (worded (need_line_at c)) any_table_at (rows, d) e in
    let b2 : (w : List ℕ × Reading) × (worded (word_at b1.0) ≡ Ok w) × (named_table_at w.0 w.1 ≡ Ok (rows, d)) = bind_ok (worded (word_at b1.0)) (λ (w : List ℕ × Reading). named_table_at w.0 w.1) (rows, d) b1.2 in
    table_by_name c b1.0 (b2.0).0 (b2.0).1 rows d (worded_ok (need_line_at c) b1.0 b1.1) (worded_ok (word_at b1.0) b2.0 b2.1) (same_list (b2.0).0 (codes "tri")) (same_list (b2.0).0 (codes "sig")) refl refl b2.2

-- a table in the grammar is read
pub record TableFound (c : Reading) (rows : List Row) (rest : List Line) : Type 0 where
  pub left : Reading
  pub read : next_table_at c ≡ Ok (rows, left)
  pub later : left.later ≡ rest
  pub at_end : left.current.tokens ≡ []

parts_of_tri : (c : Reading) (t : Table) → tri_table_at c ≡ Ok t → next_table_at c ≡ Ok t
unfolding tri_table_at exactly_at next_table_at any_table_at
parts_of_tri c t e =
    let b1 : (x : Reading) × (lexed (need_line_at c) ≡ Ok x) × ((lexed (exactly_at (codes "tri") x) >>= λ (y : Reading). table_at y) ≡ Ok t) =
    bind_ok (lexed (need_line_at c)) (λ (x : Reading). lexed (exactly_at (codes "tri") x) >>= λ (y : Reading). table_at y) t e in
    let b2 : (y : Reading) × (lexed (exactly_at (codes "tri") b1.0) ≡ Ok y) × (table_at y ≡ Ok t) = bind_ok (lexed (exactly_at (codes "tri") b1.0)) (λ (y : Reading). table_at y) t b1.2 in
    let named : exactly_at (codes "tri") b1.0 ≡ Ok b2.0 = lexed_ok (exactly_at (codes "tri") b1.0) b2.0 b2.1 in
    let b3 : (w : List ℕ × Reading) × (word_at b1.0 ≡ Ok w) × ((if same_word w.0 (codes "tri") then Ok w.1 else Err (word_fault w.1 BadWord)) ≡ Ok b2.0) =
    bind_ok (word_at b1.0) (λ (w : List ℕ × Reading). if same_word w.0 (codes "tri") then Ok w.1 else Err (word_fault w.1 BadWord)) b2.0 named in
    ap (λ (r : Result Reading InputFault). r >>= any_table_at) (worded_with (need_line_at c) b1.0 (lexed_ok (need_line_at c) b1.0 b1.1))
    ∙ ap (λ (r : Result (List ℕ × Reading) InputFault). r >>= λ (w : List ℕ × Reading). named_table_at w.0 w.1) (worded_with (word_at b1.0) b3.0 b3.1)
    ∙ by_test (b3.0).0 (b3.0).1 b2.0 (same_word (b3.0).0 (codes "tri")) refl b3.2 b2.2
  where
    by_test : (w : List ℕ) (next y : Reading) (b : Bool) → same_word w (codes "tri") ≡ b → if◌then◌else◌ {A = Result Reading LexFault} b (Ok next) (Err (word_fault next BadWord)) ≡ Ok y → table_at y ≡ Ok t → named_table_at w next ≡ Ok t
    by_test w next y false p e f = absurd cc
    by_test w next y true p e f =
        let same : next ≡ y = cc in
        ap (λ (t : Bool). by_name t (same_list w (codes "sig")) next) p ∙ texted_with (table_at next) t (ap (λ (r : Reading). table_at r) same ∙ f)

sig_of_words : (k1 k2 : ℕ) (w1 text : List ℕ) (rows : List Row) (c : Reading) → w1 ≡ codes "sig" → signature_table text ≡ Ok rows
    → any_table_at (with_tokens (word k1 w1 ∷ word k2 text ∷ []) c) ≡ Ok (rows, with_tokens [] (behind k2 (behind k1 c)))
unfolding any_table_at signature_at word_at end_line_at
sig_of_words k1 k2 w1 text rows c named table =
    ap (λ (w : List ℕ). named_table_at w (with_tokens (word k2 text ∷ []) (behind k1 c))) named ∙ ap (λ (r : Result (List Row) SigFault). decoded (with_tokens [] (behind k2 (behind k1 c))) r) table

sig_found : (c : Reading) (rows : List Row) (l : Line) (rest : List Line) (text : List ℕ) → c.later ≡ l ∷ rest → AreWords l.tokens (codes "sig" ∷ text ∷ []) → signature_table text ≡ Ok rows → TableFound c rows rest
unfolding next_table_at
sig_found c rows l rest text split a table =
    let f1 : FirstWord l.tokens (codes "sig") (text ∷ []) = first_word l.tokens (codes "sig") (text ∷ []) a in
    let f2 : FirstWord f1.rest text [] = first_word f1.rest text [] f1.others in
    let tokens : l.tokens ≡ word f1.column (codes "sig") ∷ word f2.column text ∷ [] =
    f1.tokens ∙ ap (λ (ts : List Token). word f1.column (codes "sig") ∷ ts) (f2.tokens ∙ ap (λ (ts : List Token). word f2.column text ∷ ts) (no_words f2.rest f2.others)) in
    let start : Reading = begun l rest c in
    record {
      left = with_tokens [] (behind f2.column (behind f1.column start));
      read =
          ap (λ (r : Result Reading InputFault). r >>= any_table_at) (worded_with (need_line_at c) start (line_found c l rest split))
          ∙ ap (λ (ts : List Token). any_table_at (with_tokens ts start)) tokens
          ∙ sig_of_words f1.column f2.column (codes "sig") text rows start refl table;
      later = refl;
      at_end = refl;
    }

pub table_found : (c : Reading) (rows : List Row) (lines rest : List Line) → c.later ≡ lines ++ rest → AreTableLines lines rows → TableFound c rows rest
table_found c rows lines rest split (inl tri) =
    let t : ReadsTriTable c rows rest = tri_table_found c rows rest lines split tri in
    record { left = t.left; read = parts_of_tri c (rows, t.left) t.read; later = t.later; at_end = t.at_end }
table_found c rows [] rest split (inr s) = absurd s
table_found c rows (l ∷ []) rest split (inr (text, a, spells)) = sig_found c rows l rest text split a (spelled_read text rows spells)
table_found c rows (l ∷ m ∷ lines) rest split (inr s) = absurd s

pub table_blocks : ReadsBlocks next_table_at AreTableLines
table_blocks = record {
  sound = λ c rows d e. (let r : TableLines c rows d = table_read c rows d e in (r.lines, r.split, r.table_lines));
  complete = λ c rows lines rest split h. (let r : TableFound c rows rest = table_found c rows lines rest split h in (r.left, r.read, r.later));
}
