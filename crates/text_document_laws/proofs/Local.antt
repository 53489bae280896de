-- Readers see no more of the input than the symbols that they read, and the next one.
use Rattle.std.proofs.Common.{◌≡◌, ◌≢◌, List, [], ◌∷◌, ◌++◌, Option, Some, None, Result, Ok, Err, ◌⊎◌, inl, inr, refl, sym, ap, ◌∙◌, subst}
use Rattle.std.specs.Prelude.{⊤}
use Rattle.std.proofs.lemmas.List.{append_assoc, map-append}
use Rattle.text_definitions.specs.declared.Place.{Place}
use Rattle.text_definitions.specs.Reading.{Reading, ◌>>=◌}
use Rattle.text_definitions.proofs.Readers.{bind_ok}
use Rattle.text_document_definitions.specs.Symbols.{Symbol, Placed, line_symbols, symbols_of, plain}
use Rattle.table_definitions.proofs.ReadingLaws.{ok_parts}

-- the remaining symbols
abbrev pub left_symbols : Reading → List Placed
left_symbols c = line_symbols c.current.number c.current.tokens c.current.end (symbols_of c.input_end c.later)

abbrev pub shows : Reading → List Symbol
shows c = plain (left_symbols c)

abbrev pub opening : List Symbol → Option Symbol
opening [] = None
opening (s ∷ ss) = Some s

pub opening_more : (xs ys zs : List Symbol) → opening ys ≡ opening zs → opening (xs ++ ys) ≡ opening (xs ++ zs)
opening_more [] ys zs e = e
opening_more (x ∷ xs) ys zs e = refl

pub plain-append : (xs ys : List Placed) → plain (xs ++ ys) ≡ plain xs ++ plain ys
plain-append xs ys = map-append (λ (s : Placed). s.1) xs ys

-- the symbols that are read, and the same result from a reading with the same symbols up to and including the next one
pub record AlwaysSteps {A E : Type 0} (read : Reading → Result (A × Reading) E) (c : Reading) (x : A) (d : Reading) : Type 0 where
  pub front : List Placed
  pub split : left_symbols c ≡ front ++ left_symbols d
  pub same : (other : Reading) (more : List Symbol) → shows other ≡ plain front ++ more → opening more ≡ opening (shows d) → (next : Reading) × (read other ≡ Ok (x, next)) × (shows next ≡ more)

-- where a reader fails: it fails for each reading with the same symbols up to and including the one there
pub record StopsAt {X E : Type 0} (read : Reading → Result X E) (c : Reading) (p : Place) : Type 0 where
  pub front : List Placed
  pub symbol : Symbol
  pub after : List Placed
  pub split : left_symbols c ≡ front ++ (p, symbol) ∷ after
  pub same : (other : Reading) (more : List Symbol) → shows other ≡ plain front ++ symbol ∷ more → (x : X) → read other ≢ Ok x

-- P holds of each value that a reader returns, with what remains after it
abbrev pub WhereRead : {A E : Type 0} → (Reading → Result (A × Reading) E) → Reading → (A → Reading → Type 0) → Type 0
WhereRead {A} read c P = (x : A) (d : Reading) → read c ≡ Ok (x, d) → P x d

abbrev pub Goes : {A E : Type 0} → (Reading → Result (A × Reading) E) → Reading → Type 0
Goes read c = WhereRead read c (AlwaysSteps read c)

pub bind_err : {A B E : Type 0} (r : Result A E) (g : A → Result B E) (e : E) → (r >>= g) ≡ Err e → (r ≡ Err e) ⊎ ((x : A) × (r ≡ Ok x) × (g x ≡ Err e))
bind_err (Ok x) g e p = inr (x, refl, p)
bind_err {A} (Err f) g e p = let same : f ≡ e = cc in inl (ap (λ (h : _). Err h) same)

pub shows_split : (c d : Reading) (front : List Placed) → left_symbols c ≡ front ++ left_symbols d → shows c ≡ plain front ++ shows d
shows_split c d front e = ap plain e ∙ plain-append front (left_symbols d)

pub regrouped : (xs ys : List Placed) (more : List Symbol) (c : Reading) → shows c ≡ plain (xs ++ ys) ++ more → shows c ≡ plain xs ++ (plain ys ++ more)
regrouped xs ys more c e = e ∙ ap (λ (ss : List Symbol). ss ++ more) (plain-append xs ys) ∙ append_assoc (plain xs) (plain ys) more

-- one reader after another
module _ {A B E : Type 0} (first : Reading → Result (A × Reading) E) (second : A → Reading → Result (B × Reading) E) where
  abbrev pub chained : Reading → Result (B × Reading) E
  chained c = first c >>= λ (y : A × Reading). second y.0 y.1

  abbrev pub goes_joined : (c : Reading) (x : A) (d : Reading) (z : B) (last : Reading) → AlwaysSteps first c x d → AlwaysSteps (second x) d z last → AlwaysSteps chained c z last
  goes_joined c x d z last g h = record {
    front = g.front ++ h.front;
    split = g.split ∙ ap (λ (ss : List Placed). g.front ++ ss) h.split ∙ sym (append_assoc g.front h.front (left_symbols last));
    same =
        λ other more e o. (let here : opening (plain h.front ++ more) ≡ opening (shows d) = opening_more (plain h.front) more (shows last) o ∙ ap opening (sym (shows_split d last h.front h.split)) in
        let f : (next : Reading) × (first other ≡ Ok (x, next)) × (shows next ≡ plain h.front ++ more) = g.same other (plain h.front ++ more) (regrouped g.front h.front more other e) here in
        let s : (next : Reading) × (second x f.0 ≡ Ok (z, next)) × (shows next ≡ more) = h.same f.0 more f.2 o in
        (s.0, ap (λ (r : Result (A × Reading) E). r >>= λ (y : A × Reading). second y.0 y.1) f.1 ∙ s.1, s.2));
  }

  pub goes_chained : (c : Reading) → Goes first c → WhereRead first c (λ x d. Goes (second x) d) → Goes chained c
  goes_chained c g h z last e =
      let b : (y : A × Reading) × (first c ≡ Ok y) × (second y.0 y.1 ≡ Ok (z, last)) = bind_ok (first c) (λ (y : A × Reading). second y.0 y.1) (z, last) e in
      goes_joined c (b.0).0 (b.0).1 z last (g (b.0).0 (b.0).1 b.1) (h (b.0).0 (b.0).1 b.1 z last b.2)

module _ {A X E : Type 0} (first : Reading → Result (A × Reading) E) (second : A → Reading → Result X E) where
  abbrev pub ended : Reading → Result X E
  ended c = first c >>= λ (y : A × Reading). second y.0 y.1

  abbrev pub stops_late : (c : Reading) (x : A) (d : Reading) (p : Place) → AlwaysSteps first c x d → StopsAt (second x) d p → StopsAt ended c p
  stops_late c x d p g h = record {
    front = g.front ++ h.front;
    symbol = h.symbol;
    after = h.after;
    split = g.split ∙ ap (λ (ss : List Placed). g.front ++ ss) h.split ∙ sym (append_assoc g.front h.front ((p, h.symbol) ∷ h.after));
    same =
        λ other more e z q. (let there : shows d ≡ plain h.front ++ h.symbol ∷ plain h.after = ap plain h.split ∙ plain-append h.front ((p, h.symbol) ∷ h.after) in
        let here : opening (plain h.front ++ h.symbol ∷ more) ≡ opening (shows d) = opening_more (plain h.front) (h.symbol ∷ more) (h.symbol ∷ plain h.after) refl ∙ ap opening (sym there) in
        let f : (next : Reading) × (first other ≡ Ok (x, next)) × (shows next ≡ plain h.front ++ h.symbol ∷ more) =
        g.same other (plain h.front ++ h.symbol ∷ more) (regrouped g.front h.front (h.symbol ∷ more) other e) here in
        h.same f.0 more f.2 z (sym (ap (λ (r : Result (A × Reading) E). r >>= λ (y : A × Reading). second y.0 y.1) f.1) ∙ q));
  }

  abbrev pub stops_early : (c : Reading) (p : Place) → StopsAt first c p → StopsAt ended c p
  stops_early c p h = record {
    front = h.front;
    symbol = h.symbol;
    after = h.after;
    split = h.split;
    same =
        λ other more e z q. (let b : (y : A × Reading) × (first other ≡ Ok y) × (second y.0 y.1 ≡ Ok z) = bind_ok (first other) (λ (y : A × Reading). second y.0 y.1) z q in
        h.same other more e b.0 b.1);
  }

-- a given value, and no symbol is read
pub goes_pure : {A E : Type 0} (x : A) (c : Reading) → Goes {A = A} {E = E} (λ d. Ok (x, d)) c
goes_pure {A} {E} x c y d e =
    let parts : (x ≡ y) × (c ≡ d) = ok_parts (x, c) (y, d) e in
    subst (λ (z : A). AlwaysSteps {A = A} {E = E} (λ d. Ok (x, d)) c z d) parts.0 (subst (λ (r : Reading). AlwaysSteps {A = A} {E = E} (λ d. Ok (x, d)) c x r) parts.1 (record { front = []; split = refl; same = λ other more s o. (other, refl, s) }))

-- readers with the same results
pub of_same : {X : Type 0} (P : (Reading → X) → Type 0) (r s : Reading → X) → ((c : Reading) → r c ≡ s c) → P r → P s
of_same P r s e h = subst P (λ i d. e d i) h

-- readers that return no value
abbrev pub alone : {E : Type 0} → Result Reading E → Result (⊤ × Reading) E
alone (Ok d) = Ok (tt, d)
alone (Err e) = Err e

pub alone_bind : {X E : Type 0} (r : Result Reading E) (g : Reading → Result X E) → (alone r >>= λ (y : ⊤ × Reading). g y.1) ≡ r >>= g
alone_bind (Ok d) g = refl
alone_bind (Err e) g = refl

pub alone_ok : {E : Type 0} (r : Result Reading E) (x : ⊤) (d : Reading) → alone r ≡ Ok (x, d) → r ≡ Ok d
alone_ok (Ok y) x d e = let parts : (tt ≡ x) × (y ≡ d) = ok_parts (tt, y) (x, d) e in ap (λ (r : Reading). Ok r) parts.1
alone_ok (Err f) x d e = absurd cc

module _ {E : Type 0} (move : Reading → Result Reading E) where
  abbrev pub moved : Reading → Result (⊤ × Reading) E
  moved c = alone (move c)

  pub goes_moved : {A : Type 0} (g : Reading → Result (A × Reading) E) (c : Reading) → Goes moved c → ((d : Reading) → move c ≡ Ok d → Goes g d) → Goes (λ b. move b >>= g) c
  goes_moved {A} g c h n =
      of_same (λ q. Goes q c) (chained moved (λ (u : ⊤). g)) (λ b. move b >>= g) (λ b. alone_bind (move b) g) (goes_chained moved (λ (u : ⊤). g) c h (λ u d e. n d (alone_ok (move c) u d e)))

-- readers with another type of errors
pub record Lift {X E F : Type 0} (lift : Result X E → Result X F) : Type 0 where
  pub lowered : (r : Result X E) (x : X) → lift r ≡ Ok x → r ≡ Ok x
  pub lifted : (r : Result X E) (x : X) → r ≡ Ok x → lift r ≡ Ok x

pub lift_of : {X E F : Type 0} (lift : Result X E → Result X F) → ((x : X) → lift (Ok x) ≡ Ok x) → ((f : E) (x : X) → lift (Err f) ≢ Ok x) → Lift lift
lift_of {X} {E} {F} lift ok err = record { lowered = lowered; lifted = λ r x e. ap lift e ∙ ok x }
  where
    lowered : (r : Result X E) (x : X) → lift r ≡ Ok x → r ≡ Ok x
    lowered (Ok y) x e = let s : ◌≡◌ {A = Result X F} (Ok y) (Ok x) = sym (ok y) ∙ e in let same : y ≡ x = cc in cc
    lowered (Err f) x e = absurd (err f x e)

pub goes_lifted : {A E F : Type 0} (lift : Result (A × Reading) E → Result (A × Reading) F) → Lift lift → (r : Reading → Result (A × Reading) E) (c : Reading) → Goes r c → Goes (λ d. lift (r d)) c
goes_lifted lift l r c g x d e =
    let h : AlwaysSteps r c x d = g x d (l.lowered (r c) (x, d) e) in
    record { front = h.front; split = h.split; same = λ other more s o. (let n : (next : Reading) × (r other ≡ Ok (x, next)) × (shows next ≡ more) = h.same other more s o in (n.0, l.lifted (r other) (x, n.0) n.1, n.2)) }
