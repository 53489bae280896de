-- Words that pass a test are read if and only if they are all words of the rest of a line; and the tests of entries and
-- names.
use Rattle.std.proofs.Common.{◌≡◌, ℕ, zero, suc, ◌^◌, ◌<◌, Bool, true, false, List, [], ◌∷◌, length, Option, Some, None, Result, Ok, Err, refl, sym, ap, ◌∙◌, subst}
use Rattle.std.specs.Prelude.{⊤, nat_lt, if◌then◌else◌, codes}
use Rattle.std.specs.List.{AllZip, AllByRecursion}
use Rattle.std.proofs.lemmas.Bool.{ltb-true, lt-ltb}
use Rattle.text_definitions.specs.declared.LexKind.{LexKind}
use Rattle.text_definitions.specs.declared.LexKind.TheVariants.{NumberTooWide, BadWord}
use Rattle.text_definitions.specs.declared.LexFault.{LexFault}
use Rattle.text_definitions.specs.Text.{Token, word}
use Rattle.text_definitions.specs.Reading.{Reading, ◌>>=◌, word_at, end_line_at}
use Rattle.text_definitions.proofs.Readers.{bind_ok}
use Rattle.table_definitions.specs.Lists.{same_list}
use Rattle.table_definitions.specs.Table.{Gluing, Row}
use Rattle.table_definitions.specs.TableText.{gluing_of}
use Rattle.table_definitions.specs.Grammar.{AreWords, IsEntry}
use Rattle.table_definitions.proofs.EntryLaws.{gluing_of-some, gluing_of-word}
use Rattle.table_definitions.proofs.ReadingLaws.{ok_parts, with_tokens, behind, TakesWord, word_taken}
use Rattle.text_document_laws.proofs.Local.{alone, alone_ok, moved}
use Rattle.text_document_laws.proofs.LocalWords.{tested, word_with, at_word}
use Rattle.text_document_laws.proofs.LocalTables.{gluing_test, entry_test, name_test}
use Rattle.text_document_laws.proofs.TextReaders.{words_at}
use Rattle.table_definitions.proofs.TableFoundLaws.{no_dash}
use Rattle.table_definitions.proofs.ListFacts.{same_list-true}
use Rattle.table_definitions.proofs.LineLaws.{line_ended, end_found, FirstWord, first_word, no_words}

-- a word that passed
pub record Passes {A : Type 0} (test : List ℕ → Result A LexKind) (c : Reading) (x : A) (d : Reading) : Type 0 where
  pub column : ℕ
  pub w : List ℕ
  pub rest : List Token
  pub tokens : c.current.tokens ≡ word column w ∷ rest
  pub passed : test w ≡ Ok x
  pub left : d ≡ with_tokens rest (behind column c)

tested_ok : {A : Type 0} (r : Result A LexKind) (c : Reading) (x : A) (d : Reading) → tested r c ≡ Ok (x, d) → (r ≡ Ok x) × (c ≡ d)
tested_ok {A} (Ok y) c x d e = (let parts : (y ≡ x) × (c ≡ d) = ok_parts (y, c) (x, d) e in (ap (λ (z : A). Ok z) parts.0, parts.1))
tested_ok (Err k) c x d e = absurd cc

pub word_passed : {A : Type 0} (test : List ℕ → Result A LexKind) (c : Reading) (x : A) (d : Reading) → word_with test c ≡ Ok (x, d) → Passes test c x d
word_passed test c x d e =
    let b : (y : List ℕ × Reading) × (word_at c ≡ Ok y) × (tested (test y.0) y.1 ≡ Ok (x, d)) = bind_ok (word_at c) (λ (y : List ℕ × Reading). tested (test y.0) y.1) (x, d) e in
    let t : TakesWord c.current.tokens c (b.0).0 (b.0).1 = word_taken c.current.tokens c (b.0).0 (b.0).1 b.1 in
    let p : (test (b.0).0 ≡ Ok x) × ((b.0).1 ≡ d) = tested_ok (test (b.0).0) (b.0).1 x d b.2 in
    record { column = t.column; w = (b.0).0; rest = t.rest; tokens = t.tokens; passed = p.0; left = sym p.1 ∙ t.left }

pub word_put : {A : Type 0} (test : List ℕ → Result A LexKind) (c : Reading) (column : ℕ) (w : List ℕ) (rest : List Token) (x : A) → c.current.tokens ≡ word column w ∷ rest → test w ≡ Ok x
    → word_with test c ≡ Ok (x, with_tokens rest (behind column c))
word_put {A} test c column w rest x tokens passed =
    ap (λ (ts : List Token). word_with test (with_tokens ts c)) tokens ∙ at_word test column w rest c ∙ ap (λ (r : Result A LexKind). tested r (with_tokens rest (behind column c))) passed

-- n words that pass, to the end of the line
module _ {A : Type 0} (test : List ℕ → Result A LexKind) where
  abbrev pub Passing : List ℕ → Type 0
  Passing w = (x : A) × (test w ≡ Ok x)

  pub record WordsTaken (n : ℕ) (c d : Reading) : Type 0 where
    pub ws : List (List ℕ)
    pub are_words : AreWords c.current.tokens ws
    pub pass : AllByRecursion Passing ws
    pub many : length ws ≡ n
    pub later : d.later ≡ c.later

  one_more : (n : ℕ) (c c1 d : Reading) (x : A) → Passes test c x c1 → WordsTaken n c1 d → WordsTaken (suc n) c d
  one_more n c c1 d x p t =
      let rest : AreWords p.rest t.ws = subst (λ (r : Reading). AreWords r.current.tokens t.ws) p.left t.are_words in
      record {
        ws = p.w ∷ t.ws;
        are_words = subst (λ (ts : List Token). AreWords ts (p.w ∷ t.ws)) (sym p.tokens) (refl, rest);
        pass = ((x, p.passed), t.pass);
        many = ap (λ (m : ℕ). suc m) t.many;
        later = t.later ∙ ap (λ (r : Reading). r.later) p.left;
      }

  ended : (c : Reading) (u : ⊤) (d : Reading) → moved end_line_at c ≡ Ok (u, d) → WordsTaken 0 c d
  ended c u d e =
      let l : (c.current.tokens ≡ []) × (d ≡ with_tokens [] c) = line_ended c.current.tokens c d (alone_ok (end_line_at c) u d e) in
      record { ws = []; are_words = subst (λ (ts : List Token). AreWords ts []) (sym l.0) tt; pass = tt; many = refl; later = ap (λ (r : Reading). r.later) l.1 }

  pub words_taken : (n : ℕ) (c : Reading) (u : ⊤) (d : Reading) → words_at test n c ≡ Ok (u, d) → WordsTaken n c d
  unfolding words_at
  words_taken zero c u d e = ended c u d e
  words_taken (suc n) c u d e =
      let b : (x : A × Reading) × (word_with test c ≡ Ok x) × (words_at test n x.1 ≡ Ok (u, d)) = bind_ok (word_with test c) (λ (x : A × Reading). words_at test n x.1) (u, d) e in
      one_more n c (b.0).1 d (b.0).0 (word_passed test c (b.0).0 (b.0).1 b.1) (words_taken n (b.0).1 u d b.2)

  abbrev Given : ℕ → Reading → Type 0
  Given n c = (d : Reading) × (words_at test n c ≡ Ok (tt, d)) × (d.later ≡ c.later)

  put_one : (n : ℕ) (c : Reading) (column : ℕ) (w : List ℕ) (rest : List Token) (x : A) → c.current.tokens ≡ word column w ∷ rest → test w ≡ Ok x → Given n (with_tokens rest (behind column c)) → Given (suc n) c
  unfolding words_at
  put_one n c column w rest x tokens passed g =
      (g.0, ap (λ (r : Result (A × Reading) LexFault). r >>= λ (y : A × Reading). words_at test n y.1) (word_put test c column w rest x tokens passed) ∙ g.1, g.2)

  put_none : (c : Reading) → c.current.tokens ≡ [] → Given 0 c
  unfolding words_at
  put_none c none = (with_tokens [] c, ap (λ (r : Result Reading LexFault). alone r) (end_found c.current.tokens c none), refl)

  pub words_given : (ws : List (List ℕ)) (c : Reading) → AreWords c.current.tokens ws → AllByRecursion Passing ws → (d : Reading) × (words_at test (length ws) c ≡ Ok (tt, d)) × (d.later ≡ c.later)
  words_given [] c a p = put_none c (no_words c.current.tokens a)
  words_given (w ∷ ws) c a p =
      let f : FirstWord c.current.tokens w ws = first_word c.current.tokens w ws a in
      put_one (length ws) c f.column w f.rest p.0.0 f.tokens p.0.1 (words_given ws (with_tokens f.rest (behind f.column c)) f.others p.1)

-- entries
gluing_passed : (w : List ℕ) (q o : Option Gluing) → gluing_of w ≡ q → gluing_test q ≡ Ok o → IsEntry w o
unfolding gluing_test
gluing_passed w None o is e = absurd cc
gluing_passed w (Some g) o is e = by_test (nat_lt g.tet (2 ^ 32)) refl e
  where
    by_test : (b : Bool) → nat_lt g.tet (2 ^ 32) ≡ b → if◌then◌else◌ {A = Result (Option Gluing) LexKind} b (Ok (Some g)) (Err NumberTooWide) ≡ Ok o → IsEntry w o
    by_test false t e = absurd cc
    by_test true t e = (let same : Some g ≡ o = cc in subst (λ (p : Option Gluing). IsEntry w p) same (gluing_of-some w g is (ltb-true g.tet (2 ^ 32) t)))

entry_passed : (w : List ℕ) (o : Option Gluing) → entry_test w ≡ Ok o → IsEntry w o
unfolding entry_test
entry_passed w o e = by_test (same_list w (codes "-")) refl e
  where
    by_test : (b : Bool) → same_list w (codes "-") ≡ b → if◌then◌else◌ {A = Result (Option Gluing) LexKind} b (Ok None) (gluing_test (gluing_of w)) ≡ Ok o → IsEntry w o
    by_test true t e = (let same : None ≡ o = cc in subst (λ (p : Option Gluing). IsEntry w p) same (same_list-true w (codes "-") t))
    by_test false t e = gluing_passed w (gluing_of w) o refl e

entry_passes : (w : List ℕ) (o : Option Gluing) → IsEntry w o → entry_test w ≡ Ok o
unfolding entry_test gluing_test
entry_passes w None h = ap (λ (v : List ℕ). entry_test v) h
entry_passes w (Some g) h =
    let r : (gluing_of w ≡ Some g) × (g.tet < 2 ^ 32) = gluing_of-word w g h in
    ap (λ (b : Bool). if◌then◌else◌ {A = Result (Option Gluing) LexKind} b (Ok None) (gluing_test (gluing_of w))) (no_dash w g r.0)
    ∙ ap (λ (q : Option Gluing). gluing_test q) r.0
    ∙ ap (λ (b : Bool). if◌then◌else◌ {A = Result (Option Gluing) LexKind} b (Ok (Some g)) (Err NumberTooWide)) (lt-ltb g.tet (2 ^ 32) r.1)

pub entries_of : (ws : List (List ℕ)) → AllByRecursion (Passing entry_test) ws → (row : Row) × AllZip IsEntry ws row × (length row ≡ length ws)
entries_of [] p = ([], tt, refl)
entries_of (w ∷ ws) p =
    let o : (row : Row) × AllZip IsEntry ws row × (length row ≡ length ws) = entries_of ws p.1 in
    (p.0.0 ∷ o.0, (entry_passed w p.0.0 p.0.1, o.1), ap (λ (n : ℕ). suc n) o.2)

pub entries_pass : (ws : List (List ℕ)) (row : Row) → AllZip IsEntry ws row → AllByRecursion (Passing entry_test) ws × (length ws ≡ length row)
entries_pass [] [] z = (tt, refl)
entries_pass [] (o ∷ row) z = absurd z
entries_pass (w ∷ ws) [] z = absurd z
entries_pass (w ∷ ws) (o ∷ row) z =
    let m : AllByRecursion (Passing entry_test) ws × (length ws ≡ length row) = entries_pass ws row z.1 in
    (((o, entry_passes w o z.0), m.0), ap (λ (n : ℕ). suc n) m.1)

-- the names of tables
pub name_passed : (w : List ℕ) (b : Bool) → name_test w ≡ Ok b → w ≡ (if b then codes "tri" else codes "sig")
unfolding name_test
name_passed w b e = by_test (same_list w (codes "tri")) (same_list w (codes "sig")) refl refl e
  where
    by_test : (t s : Bool) → same_list w (codes "tri") ≡ t → same_list w (codes "sig") ≡ s → if◌then◌else◌ {A = Result Bool LexKind} t (Ok true) (if s then Ok false else Err BadWord) ≡ Ok b → w ≡ (if b then codes "tri" else codes "sig")
    by_test true s p q e = (let same : true ≡ b = cc in subst (λ (d : Bool). w ≡ (if d then codes "tri" else codes "sig")) same (same_list-true w (codes "tri") p))
    by_test false true p q e = (let same : false ≡ b = cc in subst (λ (d : Bool). w ≡ (if d then codes "tri" else codes "sig")) same (same_list-true w (codes "sig") q))
    by_test false false p q e = absurd cc
