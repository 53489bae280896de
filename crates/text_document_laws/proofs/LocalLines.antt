-- Readers of one line after another, and of a line to its end, see no more than they read and the next symbol.
use Rattle.std.proofs.Common.{◌≡◌, ◌≢◌, ℕ, List, [], ◌∷◌, ◌++◌, Some, Result, Ok, Err, refl, sym, ap, ◌∙◌, subst}
use Rattle.std.specs.Prelude.{⊤}
use Rattle.std.proofs.lemmas.List.{append_assoc}
use Rattle.text_definitions.specs.declared.Place.{Place}
use Rattle.text_definitions.specs.declared.LexKind.TheVariants.{MissingWord}
use Rattle.text_definitions.specs.declared.LexFault.{LexFault}
use Rattle.text_definitions.specs.Text.{Token, word, stray, Line}
use Rattle.text_definitions.specs.Reading.{Reading, begun, need_line_at, line_from}
use Rattle.text_document_definitions.specs.Symbols.{Symbol, line_end, input_end, Placed, token_symbol, line_symbols, symbols_of, plain}
use Rattle.table_definitions.proofs.ReadingLaws.{ok_parts, with_tokens}
use Rattle.table_definitions.proofs.LineLaws.{line_found}
use Rattle.text_document_laws.proofs.Local.{left_symbols, shows, opening, opening_more, plain-append, regrouped, AlwaysSteps, StopsAt, Goes, alone, moved}
use Rattle.text_document_laws.proofs.LocalWords.{end_there}

-- the remaining tokens of a line, and its end
unfoldable pub rest_of_line : ℕ → List Token → ℕ → List Placed
rest_of_line n [] end = (record { line = n; column = end }, line_end) ∷ []
rest_of_line n (t ∷ ts) end = token_symbol n t ∷ rest_of_line n ts end

pub line_split : (n : ℕ) (ts : List Token) (end : ℕ) (others : List Placed) → line_symbols n ts end others ≡ rest_of_line n ts end ++ others
unfolding line_symbols rest_of_line
line_split n [] end others = refl
line_split n (t ∷ ts) end others = ap (λ (ss : List Placed). token_symbol n t ∷ ss) (line_split n ts end others)

tails : (x y : Symbol) (xs ys : List Symbol) → x ∷ xs ≡ y ∷ ys → xs ≡ ys
tails x y xs ys e = cc

-- if symbols begin with the rest of a line, what follows it in both is the same
skipped : (n : ℕ) (ts : List Token) (end m : ℕ) (us : List Token) (last : ℕ) (others : List Placed) (more : List Symbol) → plain (line_symbols m us last others) ≡ plain (rest_of_line n ts end) ++ more → plain others ≡ more
unfolding line_symbols rest_of_line
skipped n [] end m [] last others more e = tails line_end line_end (plain others) more e
skipped n [] end m (word column w ∷ us) last others more e = absurd cc
skipped n [] end m (stray column ∷ us) last others more e = absurd cc
skipped n (word column w ∷ ts) end m [] last others more e = absurd cc
skipped n (stray column ∷ ts) end m [] last others more e = absurd cc
skipped n (t ∷ ts) end m (u ∷ us) last others more e =
    skipped n ts end m us last others more (tails (token_symbol m u).1 (token_symbol n t).1 (plain (line_symbols m us last others)) (plain (rest_of_line n ts end) ++ more) e)

pub no_input_end : (n : ℕ) (ts : List Token) (end : ℕ) (others : List Placed) → opening (plain (line_symbols n ts end others)) ≢ Some input_end
unfolding line_symbols
no_input_end n [] end others e = absurd cc
no_input_end n (word column w ∷ ts) end others e = absurd cc
no_input_end n (stray column ∷ ts) end others e = absurd cc

-- if the next symbol after the line is not the end of the input, a line follows
pub record Further (other : Reading) (more : List Symbol) : Type 0 where
  pub line : Line
  pub rest : List Line
  pub lines : other.later ≡ line ∷ rest
  pub there : shows (begun line rest other) ≡ more

pub further_in : (ls : List Line) (other : Reading) (more : List Symbol) → other.later ≡ ls → plain (symbols_of other.input_end ls) ≡ more → opening more ≢ Some input_end → Further other more
unfolding symbols_of
further_in [] other more split e n = absurd (n (ap opening (sym e)))
further_in (l ∷ ls) other more split e n = record { line = l; rest = ls; lines = split; there = e }

abbrev pub rest_here : Reading → List Placed
rest_here c = rest_of_line c.current.number c.current.tokens c.current.end

pub behind_line : (c other : Reading) (more : List Symbol) → shows other ≡ plain (rest_here c) ++ more → plain (symbols_of other.input_end other.later) ≡ more
behind_line c other more e = skipped c.current.number c.current.tokens c.current.end other.current.number other.current.tokens other.current.end (symbols_of other.input_end other.later) more e

pub further : (c other : Reading) (more : List Symbol) → shows other ≡ plain (rest_here c) ++ more → opening more ≢ Some input_end → Further other more
further c other more e n = further_in other.later other more refl (behind_line c other more e) n

pub split_line : (c : Reading) (l : Line) (ls : List Line) → c.later ≡ l ∷ ls → left_symbols c ≡ rest_here c ++ left_symbols (begun l ls c)
unfolding symbols_of
split_line c l ls e =
    ap (λ (ks : List Line). line_symbols c.current.number c.current.tokens c.current.end (symbols_of c.input_end ks)) e
    ∙ line_split c.current.number c.current.tokens c.current.end (left_symbols (begun l ls c))

-- the next line
goes_line_in : (ls : List Line) (c : Reading) → c.later ≡ ls → (x : ⊤) (d : Reading) → alone (line_from ls c) ≡ Ok (x, d) → AlwaysSteps (moved need_line_at) c x d
goes_line_in [] c split x d e = absurd cc
goes_line_in (l ∷ ls) c split x d e =
    let parts : (tt ≡ x) × (begun l ls c ≡ d) = ok_parts (tt, begun l ls c) (x, d) e in
    let made : AlwaysSteps (moved need_line_at) c tt (begun l ls c) = record {
      front = rest_here c;
      split = split_line c l ls split;
      same =
          λ other more s o. (let none : opening more ≢ Some input_end = λ p. no_input_end l.number l.tokens l.end (symbols_of c.input_end ls) (sym o ∙ p) in
          let f : Further other more = further c other more s none in
          (begun f.line f.rest other, ap alone (line_found other f.line f.rest f.lines), f.there));
    } in
    subst (λ (y : ⊤). AlwaysSteps (moved need_line_at) c y d) parts.0 (subst (λ (r : Reading). AlwaysSteps (moved need_line_at) c tt r) parts.1 made)

pub goes_line : (c : Reading) → Goes (moved need_line_at) c
unfolding need_line_at
goes_line c x d e = goes_line_in c.later c refl x d e

pub no_line_more : (ls : List Line) (other : Reading) (more : List Symbol) → plain (symbols_of other.input_end ls) ≡ input_end ∷ more → (x : ⊤ × Reading) → alone (line_from ls other) ≢ Ok x
unfolding symbols_of
no_line_more [] other more e x p = absurd cc
no_line_more (l ∷ ls) other more e x p = no_input_end l.number l.tokens l.end (symbols_of other.input_end ls) (ap opening e)

-- the reader of a line fails at the end of the input
abbrev pub StopsAfterLine : Reading → Place → Type 0
StopsAfterLine c p = (h : StopsAt (moved need_line_at) c p) × (h.front ≡ rest_here c)

pub stops_line_in : (ls : List Line) (c : Reading) → c.later ≡ ls → (f : LexFault) → alone (line_from ls c) ≡ Err f → StopsAfterLine c f.place
unfolding need_line_at symbols_of
stops_line_in [] c split f e =
    let fault : LexFault = record { place = c.input_end; kind = MissingWord } in
    let same : fault ≡ f = cc in
    subst (λ (g : LexFault). StopsAfterLine c g.place) same (
      record {
        front = rest_here c;
        symbol = input_end;
        after = [];
        split =
            ap (λ (ks : List Line). line_symbols c.current.number c.current.tokens c.current.end (symbols_of c.input_end ks)) split
            ∙ line_split c.current.number c.current.tokens c.current.end ((c.input_end, input_end) ∷ []);
        same = λ other more s x p. no_line_more other.later other more (behind_line c other (input_end ∷ more) s) x p;
      },
      refl,
    )
stops_line_in (l ∷ ls) c split f e = absurd cc

-- no line remains
abbrev pub none_stop : Reading → Result (⊤ × Reading) LexFault
none_stop c = Ok (tt, c)

-- a reader of the next line, and one for an input of which no line remains
abbrev pub by_lines : {X E : Type 0} → (Reading → Result X E) → (Reading → Result X E) → List Line → Reading → Result X E
by_lines stop go [] c = stop c
by_lines stop go (l ∷ ls) c = go (begun l ls c)

module _ {X E : Type 0} (stop go : Reading → Result X E) where
  abbrev pub by_line : Reading → Result X E
  by_line c = by_lines stop go c.later c

  abbrev pub in_line : (c : Reading) (l : Line) (ls : List Line) (p : Place) → c.later ≡ l ∷ ls → StopsAt go (begun l ls c) p → StopsAt by_line c p
  in_line c l ls p split h = record {
    front = rest_here c ++ h.front;
    symbol = h.symbol;
    after = h.after;
    split = split_line c l ls split ∙ ap (λ (ss : List Placed). rest_here c ++ ss) h.split ∙ sym (append_assoc (rest_here c) h.front ((p, h.symbol) ∷ h.after));
    same =
        λ other more s x q. (let next : List Symbol = plain h.front ++ h.symbol ∷ more in
        let there : shows (begun l ls c) ≡ plain h.front ++ h.symbol ∷ plain h.after = ap plain h.split ∙ plain-append h.front ((p, h.symbol) ∷ h.after) in
        let none : opening next ≢ Some input_end =
        λ o. no_input_end l.number l.tokens l.end (symbols_of c.input_end ls) (ap opening there ∙ opening_more (plain h.front) (h.symbol ∷ plain h.after) (h.symbol ∷ more) refl ∙ o) in
        let f : Further other next = further c other next (regrouped (rest_here c) h.front (h.symbol ∷ more) other s) none in
        h.same (begun f.line f.rest other) more f.there x (sym (ap (λ (ks : List Line). by_lines stop go ks other) f.lines) ∙ q));
  }

-- a reader of the rest of a line, and a value if none remains
abbrev pub by_ends : {A E : Type 0} → A → (Reading → Result (A × Reading) E) → List Token → Reading → Result (A × Reading) E
by_ends x go [] c = Ok (x, c)
by_ends x go (t ∷ ts) c = go c

pub ends_shown : (ts : List Token) (c : Reading) → ts ≡ [] → opening (shows (with_tokens ts c)) ≡ Some line_end
unfolding line_symbols
ends_shown [] c e = refl
ends_shown (t ∷ ts) c e = absurd cc

pub token_shown : (us : List Token) (c : Reading) (t : Token) (ts : List Token) → us ≡ t ∷ ts → opening (shows (with_tokens us c)) ≢ Some line_end
unfolding line_symbols
token_shown [] c t ts e o = absurd cc
token_shown (word column w ∷ us) c t ts e o = absurd cc
token_shown (stray column ∷ us) c t ts e o = absurd cc

module _ {A E : Type 0} (x : A) (go : Reading → Result (A × Reading) E) where
  abbrev pub by_end : Reading → Result (A × Reading) E
  by_end c = by_ends x go c.current.tokens c

  pub more_in : (ts : List Token) (other : Reading) → opening (shows (with_tokens ts other)) ≢ Some line_end → by_ends x go ts other ≡ go other
  more_in [] other n = absurd (n (ends_shown [] other refl))
  more_in (t ∷ ts) other n = refl

  goes_end_in : (ts : List Token) (c : Reading) → c.current.tokens ≡ ts → ((t : Token) (us : List Token) → c.current.tokens ≡ t ∷ us → Goes go c) → (y : A) (d : Reading) → by_ends x go ts c ≡ Ok (y, d) → AlwaysSteps by_end c y d
  goes_end_in [] c split g y d e =
      let parts : (x ≡ y) × (c ≡ d) = ok_parts (x, c) (y, d) e in
      let made : AlwaysSteps by_end c x c = record {
        front = [];
        split = refl;
        same =
            λ other more s o. (let none : other.current.tokens ≡ [] = end_there other.current.tokens other (ap opening s ∙ o ∙ ends_shown c.current.tokens c split) in
            (other, ap (λ (ts : List Token). by_ends x go ts other) none, s));
      } in
      subst (λ (z : A). AlwaysSteps by_end c z d) parts.0 (subst (λ (r : Reading). AlwaysSteps by_end c x r) parts.1 made)
  goes_end_in (t ∷ ts) c split g y d e =
      let h : AlwaysSteps go c y d = g t ts split y d e in
      record {
        front = h.front;
        split = h.split;
        same =
            λ other more s o. (let begins : opening (shows other) ≡ opening (shows c) = ap opening s ∙ opening_more (plain h.front) more (shows d) o ∙ ap opening (sym (ap plain h.split ∙ plain-append h.front (left_symbols d))) in
            let n : opening (shows other) ≢ Some line_end = λ p. token_shown c.current.tokens c t ts split (sym begins ∙ p) in
            let r : (next : Reading) × (go other ≡ Ok (y, next)) × (shows next ≡ more) = h.same other more s o in
            (r.0, more_in other.current.tokens other n ∙ r.1, r.2));
      }

  pub goes_by_end : (c : Reading) → ((t : Token) (ts : List Token) → c.current.tokens ≡ t ∷ ts → Goes go c) → Goes by_end c
  goes_by_end c g y d e = goes_end_in c.current.tokens c refl g y d e

  abbrev pub end_stop : (c : Reading) (t : Token) (ts : List Token) (p : Place) → c.current.tokens ≡ t ∷ ts → StopsAt go c p → StopsAt by_end c p
  end_stop c t ts p split h = record {
    front = h.front;
    symbol = h.symbol;
    after = h.after;
    split = h.split;
    same =
        λ other more s y q. (let there : shows c ≡ plain h.front ++ h.symbol ∷ plain h.after = ap plain h.split ∙ plain-append h.front ((p, h.symbol) ∷ h.after) in
        let begins : opening (shows other) ≡ opening (shows c) = ap opening s ∙ opening_more (plain h.front) (h.symbol ∷ more) (h.symbol ∷ plain h.after) refl ∙ ap opening (sym there) in
        let n : opening (shows other) ≢ Some line_end = λ r. token_shown c.current.tokens c t ts split (sym begins ∙ r) in
        h.same other more s y (sym (more_in other.current.tokens other n) ∙ q));
  }
