-- The lexer's calls see no more than they read and the next symbol.
use Rattle.std.proofs.Common.{◌≡◌, ◌≢◌, ℕ, List, [], ◌∷◌, Some, Result, Ok, Err, refl, sym, ap, ◌∙◌, subst}
use Rattle.std.specs.Prelude.{⊤}
use Rattle.text_definitions.specs.declared.Place.{Place}
use Rattle.text_definitions.specs.declared.LexKind.{LexKind}
use Rattle.text_definitions.specs.declared.LexKind.TheVariants.{BadByte, MissingWord, ExtraWord}
use Rattle.text_definitions.specs.declared.LexFault.{LexFault}
use Rattle.text_definitions.specs.Text.{Token, word, stray}
use Rattle.text_definitions.specs.Reading.{Reading, ◌>>=◌, column_at, fault_at, word_fault, word_at, end_line_at, end_from}
use Rattle.text_document_definitions.specs.Symbols.{Symbol, shown, strange, line_end, line_symbols, symbols_of}
use Rattle.table_definitions.proofs.ReadingLaws.{ok_parts, with_tokens, behind}
use Rattle.text_document_laws.proofs.Local.{left_symbols, shows, opening, AlwaysSteps, StopsAt, Goes, alone, moved}

abbrev pub as_is : LexFault → LexFault
as_is f = f

-- the first of the remaining symbols, and the token or the end of a line that it is
word_there : (ts : List Token) (c : Reading) (w : List ℕ) (more : List Symbol) → shows (with_tokens ts c) ≡ shown w ∷ more → (column : ℕ) × (rest : List Token) × (ts ≡ word column w ∷ rest) × (shows (with_tokens rest c) ≡ more)
unfolding line_symbols
word_there [] c w more e = absurd cc
word_there (stray column ∷ ts) c w more e = absurd cc
word_there (word column v ∷ ts) c w more e =
    let same : v ≡ w = cc in
    let others : shows (with_tokens ts c) ≡ more = cc in
    (column, ts, ap (λ (u : List ℕ). word column u ∷ ts) same, others)

stray_there : (ts : List Token) (c : Reading) (more : List Symbol) → shows (with_tokens ts c) ≡ strange ∷ more → (column : ℕ) × (rest : List Token) × (ts ≡ stray column ∷ rest)
unfolding line_symbols
stray_there [] c more e = absurd cc
stray_there (stray column ∷ ts) c more e = (column, ts, refl)
stray_there (word column v ∷ ts) c more e = absurd cc

pub end_there : (ts : List Token) (c : Reading) → opening (shows (with_tokens ts c)) ≡ Some line_end → ts ≡ []
unfolding line_symbols
end_there [] c e = refl
end_there (stray column ∷ ts) c e = absurd cc
end_there (word column v ∷ ts) c e = absurd cc

-- a reader fails at the next symbol
abbrev pub StopsHere : {X E : Type 0} → (Reading → Result X E) → Reading → Place → Type 0
StopsHere read c p = (h : StopsAt read c p) × (h.front ≡ [])

-- the next word, if it passes a test
abbrev pub tested : {A : Type 0} → Result A LexKind → Reading → Result (A × Reading) LexFault
tested (Ok x) c = Ok (x, c)
tested (Err k) c = Err (word_fault c k)

abbrev pub word_with : {A : Type 0} → (List ℕ → Result A LexKind) → Reading → Result (A × Reading) LexFault
word_with test c = word_at c >>= λ (w : List ℕ × Reading). tested (test w.0) w.1

module _ {A : Type 0} (test : List ℕ → Result A LexKind) where
  abbrev pub read : Reading → Result (A × Reading) LexFault
  read c = word_with test c

  pub at_word : (column : ℕ) (w : List ℕ) (ts : List Token) (c : Reading) → read (with_tokens (word column w ∷ ts) c) ≡ tested (test w) (with_tokens ts (behind column c))
  unfolding word_at
  at_word column w ts c = refl

  pub again : (w : List ℕ) (r : Result A LexKind) (other : Reading) (more : List Symbol) → test w ≡ r → shows other ≡ shown w ∷ more
      → (next : Reading) × (read other ≡ tested r next) × (shows next ≡ more)
  again w r other more t e =
      let v : (column : ℕ) × (rest : List Token) × (other.current.tokens ≡ word column w ∷ rest) × (shows (with_tokens rest other) ≡ more) = word_there other.current.tokens other w more e in
      let next : Reading = with_tokens v.1 (behind v.0 other) in
      (next, ap (λ (ts : List Token). read (with_tokens ts other)) v.2 ∙ at_word v.0 w v.1 other ∙ ap (λ (q : Result A LexKind). tested q next) t, v.3)

  taken : (column : ℕ) (w : List ℕ) (ts : List Token) (c : Reading) (x : A) → test w ≡ Ok x → AlwaysSteps read (with_tokens (word column w ∷ ts) c) x (with_tokens ts (behind column c))
  unfolding line_symbols
  taken column w ts c x t = record {
    front = (column_at c column, shown w) ∷ [];
    split = refl;
    same = λ other more e o. again w (Ok x) other more t e;
  }

  goes_here : (ts : List Token) (c : Reading) → Goes read (with_tokens ts c)
  unfolding word_at
  goes_here [] c x d e = absurd cc
  goes_here (stray column ∷ ts) c x d e = absurd cc
  goes_here (word column w ∷ ts) c x d e = by_test (test w) refl e
    where
      by_test : (r : Result A LexKind) → test w ≡ r → tested r (with_tokens ts (behind column c)) ≡ Ok (x, d) → AlwaysSteps read (with_tokens (word column w ∷ ts) c) x d
      by_test (Err k) t e = absurd cc
      by_test (Ok y) t e =
          let parts : (y ≡ x) × (with_tokens ts (behind column c) ≡ d) = ok_parts (y, with_tokens ts (behind column c)) (x, d) e in
          subst (λ (r : Reading). AlwaysSteps read (with_tokens (word column w ∷ ts) c) x r) parts.1 (taken column w ts c x (t ∙ ap (λ (z : A). Ok z) parts.0))

  pub goes_word : (c : Reading) → Goes read c
  goes_word c = goes_here c.current.tokens c

  none_ended : (other : Reading) (more : List Symbol) → shows other ≡ line_end ∷ more → (x : A × Reading) → read other ≢ Ok x
  unfolding word_at
  none_ended other more e x p =
      let none : other.current.tokens ≡ [] = end_there other.current.tokens other (ap opening e) in
      let here : read (with_tokens [] other) ≡ Ok x = sym (ap (λ (ts : List Token). read (with_tokens ts other)) none) ∙ p in
      absurd (err_ok here)
    where
      err_ok : Err (fault_at other other.current.end MissingWord) ≢ Ok x
      err_ok e = absurd cc

  none_strange : (other : Reading) (more : List Symbol) → shows other ≡ strange ∷ more → (x : A × Reading) → read other ≢ Ok x
  unfolding word_at
  none_strange other more e x p =
      let v : (column : ℕ) × (rest : List Token) × (other.current.tokens ≡ stray column ∷ rest) = stray_there other.current.tokens other more e in
      let here : read (with_tokens (stray v.0 ∷ v.1) other) ≡ Ok x = sym (ap (λ (ts : List Token). read (with_tokens ts other)) v.2) ∙ p in
      absurd (err_ok (fault_at other v.0 BadByte) here)
    where
      err_ok : (f : LexFault) → Err f ≢ Ok x
      err_ok f e = absurd cc

  none_refused : (w : List ℕ) (k : LexKind) (other : Reading) (more : List Symbol) → test w ≡ Err k → shows other ≡ shown w ∷ more → (x : A × Reading) → read other ≢ Ok x
  none_refused w k other more t e x p =
      let v : (next : Reading) × (read other ≡ tested (Err k) next) × (shows next ≡ more) = again w (Err k) other more t e in
      absurd (err_ok (word_fault v.0 k) (sym v.1 ∙ p))
    where
      err_ok : (f : LexFault) → Err f ≢ Ok x
      err_ok f e = absurd cc

  pub stops_here : (ts : List Token) (c : Reading) (f : LexFault) → read (with_tokens ts c) ≡ Err f → StopsHere read (with_tokens ts c) f.place
  unfolding word_at line_symbols
  stops_here [] c f e =
      let same : fault_at c c.current.end MissingWord ≡ f = cc in
      subst (λ (g : LexFault). StopsHere read (with_tokens [] c) g.place) same
      (record { front = []; symbol = line_end; after = symbols_of c.input_end c.later; split = refl; same = λ other more s x p. none_ended other more s x p }, refl)
  stops_here (stray column ∷ ts) c f e =
      let same : fault_at c column BadByte ≡ f = cc in
      subst (λ (g : LexFault). StopsHere read (with_tokens (stray column ∷ ts) c) g.place) same
      (record { front = []; symbol = strange; after = left_symbols (with_tokens ts c); split = refl; same = λ other more s x p. none_strange other more s x p }, refl)
  stops_here (word column w ∷ ts) c f e = by_test (test w) refl e
    where
      by_test : (r : Result A LexKind) → test w ≡ r → tested r (with_tokens ts (behind column c)) ≡ Err f → StopsHere read (with_tokens (word column w ∷ ts) c) f.place
      by_test (Ok y) t e = absurd cc
      by_test (Err k) t e =
          let same : word_fault (with_tokens ts (behind column c)) k ≡ f = cc in
          subst (λ (g : LexFault). StopsHere read (with_tokens (word column w ∷ ts) c) g.place) same
          (record { front = []; symbol = shown w; after = left_symbols (with_tokens ts c); split = refl; same = λ other more s x p. none_refused w k other more t s x p }, refl)

-- the end of a line
pub ends_again : (other : Reading) → opening (shows other) ≡ Some line_end → moved end_line_at other ≡ Ok (tt, other)
unfolding end_line_at
ends_again other o = ap (λ (ts : List Token). alone (end_from ts other)) (end_there other.current.tokens other o)

goes_end_here : (ts : List Token) (c : Reading) → Goes (moved end_line_at) (with_tokens ts c)
unfolding end_line_at line_symbols
goes_end_here [] c x d e =
    let parts : (tt ≡ x) × (with_tokens [] c ≡ d) = ok_parts (tt, with_tokens [] c) (x, d) e in
    subst (λ (y : ⊤). AlwaysSteps (moved end_line_at) (with_tokens [] c) y d) parts.0
    (subst (λ (r : Reading). AlwaysSteps (moved end_line_at) (with_tokens [] c) tt r) parts.1 (record { front = []; split = refl; same = λ other more s o. (other, ends_again other (ap opening s ∙ o), s) }))
goes_end_here (stray column ∷ ts) c x d e = absurd cc
goes_end_here (word column w ∷ ts) c x d e = absurd cc

pub goes_end : (c : Reading) → Goes (moved end_line_at) c
goes_end c = goes_end_here c.current.tokens c

token_more : (ts : List Token) (c : Reading) (s : Symbol) → opening (shows (with_tokens ts c)) ≡ Some s → s ≢ line_end → (x : ⊤ × Reading) → moved end_line_at (with_tokens ts c) ≢ Ok x
unfolding end_line_at line_symbols
token_more [] c s e n x p = (let same : s ≡ line_end = cc in n same)
token_more (stray column ∷ ts) c s e n x p = absurd cc
token_more (word column w ∷ ts) c s e n x p = absurd cc

pub stops_end_here : (ts : List Token) (c : Reading) (f : LexFault) → moved end_line_at (with_tokens ts c) ≡ Err f → StopsHere (moved end_line_at) (with_tokens ts c) f.place
unfolding end_line_at line_symbols
stops_end_here [] c f e = absurd cc
stops_end_here (stray column ∷ ts) c f e =
    let same : fault_at c column BadByte ≡ f = cc in
    subst (λ (g : LexFault). StopsHere (moved end_line_at) (with_tokens (stray column ∷ ts) c) g.place) same
    (record { front = []; symbol = strange; after = left_symbols (with_tokens ts c); split = refl; same = λ other more s x p. token_more other.current.tokens other strange (ap opening s) (λ q. cc) x p }, refl)
stops_end_here (word column w ∷ ts) c f e =
    let same : fault_at c column ExtraWord ≡ f = cc in
    subst (λ (g : LexFault). StopsHere (moved end_line_at) (with_tokens (word column w ∷ ts) c) g.place) same
    (record { front = []; symbol = shown w; after = left_symbols (with_tokens ts c); split = refl; same = λ other more s x p. token_more other.current.tokens other (shown w) (ap opening s) (λ q. cc) x p }, refl)
