-- The lexer's calls: what comes before an error can be continued.
use Rattle.std.proofs.Common.{◌≡◌, ◌≢◌, ℕ, List, [], ◌∷◌, ◌++◌, Some, Result, Ok, Err, refl, sym, ap, ◌∙◌, subst, Bool, arith}
use Rattle.std.specs.Prelude.{⊤, codes, if◌then◌else◌}
use Rattle.std.proofs.lemmas.Bool.{le-ltb}
use Rattle.text_definitions.specs.declared.LexKind.{LexKind}
use Rattle.text_definitions.specs.declared.LexFault.{LexFault}
use Rattle.text_definitions.specs.Text.{Token, word, stray, Line}
use Rattle.text_definitions.specs.Reading.{Reading, begun, column_at, need_line_at, word_at, line_from, number_at, end_line_at}
use Rattle.text_definitions.specs.declared.LexKind.TheVariants.{NumberTooWide}
use Rattle.text_document_definitions.specs.Symbols.{Symbol, shown, input_end, Placed, line_symbols, symbols_of, plain}
use Rattle.table_definitions.proofs.ReadingLaws.{ok_parts, with_tokens, behind}
use Rattle.table_definitions.proofs.LineLaws.{line_found}
use Rattle.text_document_laws.proofs.Local.{shows, opening, plain-append, alone, moved, WhereRead, of_same}
use Rattle.text_document_laws.proofs.LocalWords.{as_is, tested, word_with, at_word, again, StopsHere, stops_here, ends_again, stops_end_here}
use Rattle.text_document_laws.proofs.LocalLines.{rest_of_line, line_split, rest_here, split_line, further, Further, no_input_end, StopsAfterLine, stops_line_in, ends_shown}
use Rattle.text_document_laws.proofs.Ways.{Sat, Way, Well, WellOpen, FreeOn}
use Rattle.text_document_laws.proofs.LocalForms.{number_test, plain_test, number_word}

way_here : {A E : Type 0} (read : Reading → Result (A × Reading) E) (Aim : A → List Symbol → Type 0) (front : List Placed) → front ≡ [] → Sat read Aim → Way read front Aim
way_here read Aim front e s =
    subst (λ (fr : List Placed). Way read fr Aim) (sym e) (record { other = s.start; more = shows s.start; there = refl; value = s.value; next = s.next; reads = s.reads; aim = s.aim })

-- a word that passes a test
module _ {A : Type 0} (test : List ℕ → Result A LexKind) where
  abbrev rd : Reading → Result (A × Reading) LexFault
  rd c = word_with test c

  free_taken : (column : ℕ) (w : List ℕ) (ts : List Token) (c : Reading) (x : A) → test w ≡ Ok x → FreeOn rd (with_tokens (word column w ∷ ts) c) x (with_tokens ts (behind column c))
  unfolding line_symbols
  free_taken column w ts c x t = record {
    goes = record { front = (column_at c column, shown w) ∷ []; split = refl; same = λ other more e o. again test w (Ok x) other more t e };
    same = λ o k e. again test w (Ok x) o (shows k) t e;
  }

  free_here : (ts : List Token) (c : Reading) → WhereRead rd (with_tokens ts c) (FreeOn rd (with_tokens ts c))
  unfolding word_at
  free_here [] c x d e = absurd cc
  free_here (stray column ∷ ts) c x d e = absurd cc
  free_here (word column w ∷ ts) c x d e = by_test (test w) refl e
    where
      by_test : (r : Result A LexKind) → test w ≡ r → tested r (with_tokens ts (behind column c)) ≡ Ok (x, d) → FreeOn rd (with_tokens (word column w ∷ ts) c) x d
      by_test (Err k) t e = absurd cc
      by_test (Ok y) t e =
          let parts : (y ≡ x) × (with_tokens ts (behind column c) ≡ d) = ok_parts (y, with_tokens ts (behind column c)) (x, d) e in
          subst (λ (r : Reading). FreeOn rd (with_tokens (word column w ∷ ts) c) x r) parts.1 (free_taken column w ts c x (t ∙ ap (λ (z : A). Ok z) parts.0))

  pub free_word : (c : Reading) → WhereRead rd c (FreeOn rd c)
  free_word c = free_here c.current.tokens c

  pub sat_word : (w : List ℕ) (x : A) → test w ≡ Ok x → (Aim : A → List Symbol → Type 0) (k : Reading) → Aim x (shows k) → Sat rd Aim
  sat_word w x t Aim k a = record {
    start = with_tokens (word 0 w ∷ k.current.tokens) k;
    value = x;
    next = behind 0 k;
    reads = at_word test 0 w k.current.tokens k ∙ ap (λ (q : Result A LexKind). tested q (behind 0 k)) t;
    aim = a;
  }

  pub well_word : (Aim : A → List Symbol → Type 0) (c : Reading) → Sat rd Aim → Well as_is rd Aim c
  well_word Aim c s f e = (let h : StopsHere rd c f.place = stops_here test c.current.tokens c f e in (h.0, way_here rd Aim h.0.front h.1 s))

-- the end of a line
pub sat_end : (Aim : ⊤ → List Symbol → Type 0) (k : Reading) → k.current.tokens ≡ [] → Aim tt (shows k) → Sat (moved end_line_at) Aim
sat_end Aim k none a = record { start = k; value = tt; next = k; reads = ends_again k (ends_shown k.current.tokens k none); aim = a }

pub well_end : (Aim : ⊤ → List Symbol → Type 0) (c : Reading) → Sat (moved end_line_at) Aim → Well as_is (moved end_line_at) Aim c
well_end Aim c s f e = (let h : StopsHere (moved end_line_at) c f.place = stops_end_here c.current.tokens c f e in (h.0, way_here (moved end_line_at) Aim h.0.front h.1 s))

-- the next line
opening_rest : (n : ℕ) (ts : List Token) (end : ℕ) (ss : List Symbol) (others : List Placed) → opening (plain (rest_of_line n ts end) ++ ss) ≡ opening (plain (line_symbols n ts end others))
unfolding rest_of_line line_symbols
opening_rest n [] end ss others = refl
opening_rest n (t ∷ ts) end ss others = refl

pub opens_rest : (c : Reading) (ss : List Symbol) → opening (plain (rest_here c) ++ ss) ≡ opening (shows c)
opens_rest c ss = opening_rest c.current.number c.current.tokens c.current.end ss (symbols_of c.input_end c.later)

abbrev FreeLine : Reading → ⊤ → Reading → Type 0
FreeLine c x d = (fr : FreeOn (moved need_line_at) c x d) × ((ss : List Symbol) → opening (plain fr.goes.front ++ ss) ≡ opening (shows c))

free_line_in : (ls : List Line) (c : Reading) → c.later ≡ ls → (x : ⊤) (d : Reading) → alone (line_from ls c) ≡ Ok (x, d) → FreeLine c x d
free_line_in [] c split x d e = absurd cc
free_line_in (l ∷ ls) c split x d e =
    let parts : (tt ≡ x) × (begun l ls c ≡ d) = ok_parts (tt, begun l ls c) (x, d) e in
    let made : FreeLine c tt (begun l ls c) = (
      record {
        goes = record {
          front = rest_here c;
          split = split_line c l ls split;
          same =
              λ other more s o. (let none : opening more ≢ Some input_end = λ p. no_input_end l.number l.tokens l.end (symbols_of c.input_end ls) (sym o ∙ p) in
              let f : Further other more = further c other more s none in
              (begun f.line f.rest other, ap alone (line_found other f.line f.rest f.lines), f.there));
        };
        same =
            λ o k s. (let f : Further o (shows k) = further c o (shows k) s (no_input_end k.current.number k.current.tokens k.current.end (symbols_of k.input_end k.later)) in
            (begun f.line f.rest o, ap alone (line_found o f.line f.rest f.lines), f.there));
      },
      λ ss. opens_rest c ss,
    ) in
    subst (λ (y : ⊤). FreeLine c y d) parts.0 (subst (λ (r : Reading). FreeLine c tt r) parts.1 made)

pub free_line : (c : Reading) (x : ⊤) (d : Reading) → moved need_line_at c ≡ Ok (x, d) → FreeLine c x d
unfolding need_line_at
free_line c x d e = free_line_in c.later c refl x d e

pub well_line : (Aim : ⊤ → List Symbol → Type 0) (c k : Reading) → Aim tt (shows k) → WellOpen as_is (moved need_line_at) Aim c
unfolding need_line_at symbols_of
well_line Aim c k a f e =
    let h : StopsAfterLine c f.place = stops_line_in c.later c refl f e in
    let o : Reading = record c { later = k.current ∷ k.later; input_end = k.input_end } in
    let others : List Placed = symbols_of k.input_end (k.current ∷ k.later) in
    let there : shows o ≡ plain (rest_here c) ++ plain others = ap plain (line_split c.current.number c.current.tokens c.current.end others) ∙ plain-append (rest_here c) others in
    let way : (w : Way (moved need_line_at) (rest_here c) Aim) × (opening (shows w.other) ≡ opening (shows c)) = (
      record { other = o; more = plain others; there = there; value = tt; next = begun k.current k.later o; reads = ap alone (line_found o k.current k.later refl); aim = a },
      ap opening there ∙ opens_rest c (plain others),
    ) in
    let at_front = subst (λ (fr : List Placed). (w : Way (moved need_line_at) fr Aim) × (opening (shows w.other) ≡ opening (shows c))) (sym h.1) way in
    (h.0, at_front.0, at_front.1)

-- a number up to a limit; 0 is such a number
pub naught_passes : (max : ℕ) → plain_test max (codes "0") ≡ Ok 0
unfolding number_test
naught_passes max = ap (λ (b : Bool). if◌then◌else◌ {A = Result ℕ LexKind} b (Err NumberTooWide) (Ok 0)) (le-ltb max 0 (omega arith))

pub free_number : (max : ℕ) (c : Reading) → WhereRead (number_at max) c (FreeOn (number_at max) c)
free_number max c = of_same (λ q. WhereRead q c (FreeOn q c)) (word_with (plain_test max)) (number_at max) (number_word max) (free_word (plain_test max) c)

pub well_number : (max : ℕ) (Aim : ℕ → List Symbol → Type 0) (c k : Reading) → Aim 0 (shows k) → Well as_is (number_at max) Aim c
well_number max Aim c k a =
    of_same (λ q. Well as_is q Aim c) (word_with (plain_test max)) (number_at max) (number_word max) (well_word (plain_test max) Aim c (sat_word (plain_test max) (codes "0") 0 (naught_passes max) Aim k a))
