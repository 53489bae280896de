-- What comes before an error can be continued so that a given condition, the aim, holds of the value and of what
-- remains.
use Rattle.std.proofs.Common.{◌≡◌, ◌≢◌, ℕ, List, [], ◌∷◌, ◌++◌, Result, Ok, Err, ◌⊎◌, inl, inr, refl, sym, ap, ◌∙◌, subst}
use Rattle.std.proofs.lemmas.List.{append_assoc}
use Rattle.text_definitions.specs.declared.Place.{Place}
use Rattle.text_definitions.specs.declared.LexFault.{LexFault}
use Rattle.text_definitions.specs.Text.{Token, word, stray, Line}
use Rattle.text_definitions.specs.Reading.{Reading, ◌>>=◌}
use Rattle.text_document_definitions.specs.Symbols.{Symbol, line_end, input_end, Placed, token_symbol, line_symbols, symbols_of, plain}
use Rattle.table_definitions.proofs.ReadingLaws.{with_tokens}
use Rattle.text_document_laws.proofs.Local.{left_symbols, shows, opening, opening_more, plain-append, shows_split, AlwaysSteps, StopsAt, Goes, bind_err, stops_late, stops_early, WhereRead}
use Rattle.text_document_laws.proofs.LocalWords.{as_is}

-- readings that `read` reads so that Aim holds: any, one with the symbols ss, and one whose symbols begin with `front`
pub record Sat {A E : Type 0} (read : Reading → Result (A × Reading) E) (Aim : A → List Symbol → Type 0) : Type 0 where
  pub start : Reading
  pub value : A
  pub next : Reading
  pub reads : read start ≡ Ok (value, next)
  pub aim : Aim value (shows next)

pub record From {A E : Type 0} (read : Reading → Result (A × Reading) E) (Aim : A → List Symbol → Type 0) (ss : List Symbol) : Type 0 where
  pub start : Reading
  pub there : shows start ≡ ss
  pub value : A
  pub next : Reading
  pub reads : read start ≡ Ok (value, next)
  pub aim : Aim value (shows next)

pub record Way {A E : Type 0} (read : Reading → Result (A × Reading) E) (front : List Placed) (Aim : A → List Symbol → Type 0) : Type 0 where
  pub other : Reading
  pub more : List Symbol
  pub there : shows other ≡ plain front ++ more
  pub value : A
  pub next : Reading
  pub reads : read other ≡ Ok (value, next)
  pub aim : Aim value (shows next)

-- if `read` fails, the symbols before the error have a continuation for which Aim holds; and one with the same first
-- symbol
abbrev pub Well : {A E : Type 0} → (LexFault → E) → (Reading → Result (A × Reading) E) → (A → List Symbol → Type 0) → Reading → Type 0
Well lexical read Aim c = (f : LexFault) → read c ≡ Err (lexical f) → (h : StopsAt read c f.place) × Way read h.front Aim

abbrev pub WellOpen : {A E : Type 0} → (LexFault → E) → (Reading → Result (A × Reading) E) → (A → List Symbol → Type 0) → Reading → Type 0
WellOpen lexical read Aim c = (f : LexFault) → read c ≡ Err (lexical f) → (h : StopsAt read c f.place) × (w : Way read h.front Aim) × (opening (shows w.other) ≡ opening (shows c))

-- a reader whose result does not depend on the next symbol
pub record FreeOn {A E : Type 0} (read : Reading → Result (A × Reading) E) (c : Reading) (x : A) (d : Reading) : Type 0 where
  pub goes : AlwaysSteps read c x d
  pub same : (o : Reading) (k : Reading) → shows o ≡ plain goes.front ++ shows k → (next : Reading) × (read o ≡ Ok (x, next)) × (shows next ≡ shows k)

-- a reading with the first symbols of one reading, and then the symbols of another
unfoldable pub line_before : Reading → Reading
line_before k = record k { current = record { number = 0; tokens = []; end = 0 }; later = k.current ∷ k.later }

line_before_shows : (k : Reading) → shows (line_before k) ≡ line_end ∷ shows k
unfolding line_before line_symbols symbols_of
line_before_shows k = refl

token_before : Token → Reading → Reading
token_before t k = with_tokens (t ∷ k.current.tokens) k

token_before_shows : (t : Token) (n : ℕ) (k : Reading) → shows (token_before t k) ≡ (token_symbol n t).1 ∷ shows k
unfolding token_before line_symbols
token_before_shows (word column w) n k = refl
token_before_shows (stray column) n k = refl

pub heads : {A : Type 0} (x y : A) (xs ys : List A) → x ∷ xs ≡ y ∷ ys → (x ≡ y) × (xs ≡ ys)
heads x y xs ys e = (cc, cc)

one_only : (s : Placed) (front rest : List Placed) (t : Placed) → rest ≢ [] → s ∷ [] ≡ t ∷ (front ++ rest) → ⊥
one_only s [] rest t n e = (let p : [] ≡ rest = cc in n (sym p))
one_only s (x ∷ front) rest t n e = (let p : [] ≡ x ∷ (front ++ rest) = cc in absurd cc)

graft_in : (front : List Placed) (n : ℕ) (ts : List Token) (end : ℕ) (ls : List Line) (p : Place) (rest : List Placed) → rest ≢ [] → line_symbols n ts end (symbols_of p ls) ≡ front ++ rest → (k : Reading)
    → (o : Reading) × (shows o ≡ plain front ++ shows k)
unfolding line_symbols symbols_of
graft_in [] n ts end ls p rest some e k = (k, refl)
graft_in (s ∷ front) n (t ∷ ts) end ls p rest some e k =
    let parts : (token_symbol n t ≡ s) × (line_symbols n ts end (symbols_of p ls) ≡ front ++ rest) = heads (token_symbol n t) s (line_symbols n ts end (symbols_of p ls)) (front ++ rest) e in
    let o : (o : Reading) × (shows o ≡ plain front ++ shows k) = graft_in front n ts end ls p rest some parts.1 k in
    (token_before t o.0, token_before_shows t n o.0 ∙ ap (λ (q : Placed). q.1 ∷ shows o.0) parts.0 ∙ ap (λ (ss : List Symbol). s.1 ∷ ss) o.1)
graft_in (s ∷ front) n [] end [] p rest some e k =
    let here : Placed = (record { line = n; column = end }, line_end) in
    let parts : (here ≡ s) × ((p, input_end) ∷ [] ≡ front ++ rest) = heads here s ((p, input_end) ∷ []) (front ++ rest) e in
    last front parts.1 parts.0
  where
    last : (front : List Placed) → (p, input_end) ∷ [] ≡ front ++ rest → ◌≡◌ {A = Placed} (record { line = n; column = end }, line_end) s → (o : Reading) × (shows o ≡ s.1 ∷ (plain front ++ shows k))
    last [] e h = (line_before k, line_before_shows k ∙ ap (λ (q : Placed). q.1 ∷ shows k) h)
    last (t ∷ front) e h = absurd (one_only (p, input_end) front rest t some e)
graft_in (s ∷ front) n [] end (l ∷ ls) p rest some e k =
    let here : Placed = (record { line = n; column = end }, line_end) in
    let parts : (here ≡ s) × (line_symbols l.number l.tokens l.end (symbols_of p ls) ≡ front ++ rest) = heads here s (line_symbols l.number l.tokens l.end (symbols_of p ls)) (front ++ rest) e in
    let o : (o : Reading) × (shows o ≡ plain front ++ shows k) = graft_in front l.number l.tokens l.end ls p rest some parts.1 k in
    (line_before o.0, line_before_shows o.0 ∙ ap (λ (q : Placed). q.1 ∷ shows o.0) parts.0 ∙ ap (λ (ss : List Symbol). s.1 ∷ ss) o.1)

none_here : (n end : ℕ) (others : List Placed) → line_symbols n [] end others ≢ []
unfolding line_symbols
none_here n end others e = absurd cc

none_there : (n : ℕ) (t : Token) (ts : List Token) (end : ℕ) (others : List Placed) → line_symbols n (t ∷ ts) end others ≢ []
unfolding line_symbols
none_there n t ts end others e = absurd cc

some_left : (d : Reading) → left_symbols d ≢ []
some_left d e = by_tokens d.current.tokens e
  where
    by_tokens : (ts : List Token) → line_symbols d.current.number ts d.current.end (symbols_of d.input_end d.later) ≢ []
    by_tokens [] e = none_here d.current.number d.current.end (symbols_of d.input_end d.later) e
    by_tokens (t ∷ ts) e = none_there d.current.number t ts d.current.end (symbols_of d.input_end d.later) e

pub graft : (c : Reading) (front : List Placed) (d : Reading) → left_symbols c ≡ front ++ left_symbols d → (k : Reading) → (o : Reading) × (shows o ≡ plain front ++ shows k)
graft c front d e k = graft_in front c.current.number c.current.tokens c.current.end c.later c.input_end (left_symbols d) (some_left d) e k

-- the result of a reader depends on the symbols alone
abbrev pub Alike : {A E : Type 0} → (Reading → Result (A × Reading) E) → Type 0
Alike {A} read = (c o : Reading) (x : A) (d : Reading) → read c ≡ Ok (x, d) → shows o ≡ shows c → (next : Reading) × (read o ≡ Ok (x, next)) × (shows next ≡ shows d)

pub alike_goes : {A E : Type 0} (read : Reading → Result (A × Reading) E) → ((k : Reading) → Goes read k) → Alike read
alike_goes read g c o x d e same =
    let h : AlwaysSteps read c x d = g c x d e in
    h.same o (shows d) (same ∙ shows_split c d h.front h.split) refl

pub alike_each : {A B E : Type 0} (second : A → Reading → Result (B × Reading) E) → ((x : A) (k : Reading) → Goes (second x) k) → (x : A) → Alike (second x)
alike_each second g x = alike_goes (second x) (g x)

pub again_from : {A E : Type 0} (read : Reading → Result (A × Reading) E) (Aim : A → List Symbol → Type 0) → Alike read → (ss : List Symbol) → From read Aim ss → (c : Reading) → shows c ≡ ss
    → (y : A) × (e : Reading) × (read c ≡ Ok (y, e)) × Aim y (shows e)
again_from read Aim g ss f c e =
    let n : (next : Reading) × (read c ≡ Ok (f.value, next)) × (shows next ≡ shows f.next) = g f.start c f.value f.next f.reads (e ∙ sym f.there) in
    (f.value, n.0, n.1, subst (λ (ts : List Symbol). Aim f.value ts) (sym n.2) f.aim)

-- the second of two readers can continue so that Aim holds
abbrev pub Then : {A B E : Type 0} → (A → Reading → Result (B × Reading) E) → (B → List Symbol → Type 0) → A → List Symbol → Type 0
Then second Aim x ss = From (second x) Aim ss

-- one reader after another
module _ {A B E : Type 0} (lexical : LexFault → E) (first : Reading → Result (A × Reading) E) (second : A → Reading → Result (B × Reading) E) (Aim : B → List Symbol → Type 0)
    (alike : (x : A) → Alike (second x)) where
  abbrev pub both : Reading → Result (B × Reading) E
  both c = first c >>= λ (y : A × Reading). second y.0 y.1

  on : (o : Reading) (x : A) (d : Reading) (y : B) (e : Reading) → first o ≡ Ok (x, d) → second x d ≡ Ok (y, e) → both o ≡ Ok (y, e)
  on o x d y e p q = ap (λ (r : Result (A × Reading) E). r >>= λ (y : A × Reading). second y.0 y.1) p ∙ q

  pub sat_both : Sat first (Then second Aim) → Sat both Aim
  sat_both s =
      let a : (y : B) × (e : Reading) × (second s.value s.next ≡ Ok (y, e)) × Aim y (shows e) = again_from (second s.value) Aim (alike s.value) (shows s.next) s.aim s.next refl in
      record { start = s.start; value = a.0; next = a.1; reads = on s.start s.value s.next a.0 a.1 s.reads a.2; aim = a.3 }

  way_early : (front : List Placed) → (w : Way first front (Then second Aim)) → (v : Way both front Aim) × (v.other ≡ w.other)
  way_early front w =
      let a : (y : B) × (e : Reading) × (second w.value w.next ≡ Ok (y, e)) × Aim y (shows e) = again_from (second w.value) Aim (alike w.value) (shows w.next) w.aim w.next refl in
      (record { other = w.other; more = w.more; there = w.there; value = a.0; next = a.1; reads = on w.other w.value w.next a.0 a.1 w.reads a.2; aim = a.3 }, refl)

  way_late : (front back : List Placed) (x : A) (w : Way (second x) back Aim) (o next : Reading) → shows o ≡ plain front ++ shows w.other → first o ≡ Ok (x, next) → shows next ≡ shows w.other
      → (v : Way both (front ++ back) Aim) × (v.other ≡ o)
  way_late front back x w o next e r s =
      let from : From (second x) Aim (shows w.other) = record { start = w.other; there = refl; value = w.value; next = w.next; reads = w.reads; aim = w.aim } in
      let a : (y : B) × (e : Reading) × (second x next ≡ Ok (y, e)) × Aim y (shows e) = again_from (second x) Aim (alike x) (shows w.other) from next s in (
        record {
          other = o;
          more = w.more;
          there = e ∙ ap (λ (ss : List Symbol). plain front ++ ss) w.there ∙ sym (append_assoc (plain front) (plain back) w.more) ∙ ap (λ (ss : List Symbol). ss ++ w.more) (sym (plain-append front back));
          value = a.0;
          next = a.1;
          reads = on o x next a.0 a.1 r a.2;
          aim = a.3;
        },
        refl,
      )

  abbrev Case : Reading → LexFault → Type 0
  Case c f = (first c ≡ Err (lexical f)) ⊎ ((y : A × Reading) × (first c ≡ Ok y) × (second y.0 y.1 ≡ Err (lexical f)))

  case_of : (c : Reading) (f : LexFault) → both c ≡ Err (lexical f) → Case c f
  case_of c f e = bind_err (first c) (λ (y : A × Reading). second y.0 y.1) (lexical f) e

  early : (c : Reading) → Well lexical first (Then second Aim) c → (f : LexFault) → first c ≡ Err (lexical f) → (h : StopsAt both c f.place) × Way both h.front Aim
  early c w f p = (let u = w f p in (stops_early first second c f.place u.0, (way_early u.0.front u.1).0))

  pub well_free : (c : Reading) → WhereRead first c (FreeOn first c) → Well lexical first (Then second Aim) c → WhereRead first c (λ x d. Well lexical (second x) Aim d) → Well lexical both Aim c
  well_free c g w1 w2 f e = by_case (case_of c f e)
    where
      late : (x : A) (d : Reading) → FreeOn first c x d → (h : StopsAt (second x) d f.place) × Way (second x) h.front Aim → (h : StopsAt both c f.place) × Way both h.front Aim
      late x d fr u =
          let gr : (o : Reading) × (shows o ≡ plain fr.goes.front ++ shows (u.1.other)) = graft c fr.goes.front d fr.goes.split u.1.other in
          let n : (next : Reading) × (first gr.0 ≡ Ok (x, next)) × (shows next ≡ shows (u.1.other)) = fr.same gr.0 u.1.other gr.1 in
          (stops_late first second c x d f.place fr.goes u.0, (way_late fr.goes.front u.0.front x u.1 gr.0 n.0 gr.1 n.1 n.2).0)

      by_case : Case c f → (h : StopsAt both c f.place) × Way both h.front Aim
      by_case (inl p) = early c w1 f p
      by_case (inr (y, p, q)) = late y.0 y.1 (g y.0 y.1 p) (w2 y.0 y.1 p f q)

  -- the first reader may depend on the next symbol, which stays the same
  late_open : (c : Reading) (x : A) (d : Reading) (p : Place) → AlwaysSteps first c x d → (h : StopsAt (second x) d p) × (w : Way (second x) h.front Aim) × (opening (shows w.other) ≡ opening (shows d))
      → (h : StopsAt both c p) × (w : Way both h.front Aim) × (opening (shows w.other) ≡ opening (shows c))
  late_open c x d p g u =
      let gr : (o : Reading) × (shows o ≡ plain g.front ++ shows (u.1.other)) = graft c g.front d g.split u.1.other in
      let n : (next : Reading) × (first gr.0 ≡ Ok (x, next)) × (shows next ≡ shows (u.1.other)) = g.same gr.0 (shows (u.1.other)) gr.1 u.2 in
      let way = way_late g.front u.0.front x u.1 gr.0 n.0 gr.1 n.1 n.2 in (
        stops_late first second c x d p g u.0,
        way.0,
        ap (λ (r : Reading). opening (shows r)) way.1 ∙ ap opening gr.1 ∙ opening_more (plain g.front) (shows (u.1.other)) (shows d) u.2 ∙ sym (ap opening (shows_split c d g.front g.split)),
      )

  pub well_goes : (c : Reading) → Goes first c → Well lexical first (Then second Aim) c → WhereRead first c (λ x d. WellOpen lexical (second x) Aim d) → Well lexical both Aim c
  well_goes c g w1 w2 f e = by_case (case_of c f e)
    where
      by_case : Case c f → (h : StopsAt both c f.place) × Way both h.front Aim
      by_case (inl p) = early c w1 f p
      by_case (inr (y, p, q)) = (let u = late_open c y.0 y.1 f.place (g y.0 y.1 p) (w2 y.0 y.1 p f q) in (u.0, u.1))

  pub well_open : (c : Reading) → Goes first c → WellOpen lexical first (Then second Aim) c → WhereRead first c (λ x d. WellOpen lexical (second x) Aim d) → WellOpen lexical both Aim c
  well_open c g w1 w2 f e = by_case (case_of c f e)
    where
      by_case : Case c f → (h : StopsAt both c f.place) × (w : Way both h.front Aim) × (opening (shows w.other) ≡ opening (shows c))
      by_case (inl p) =
          let u = w1 f p in
          let way = way_early u.0.front u.1 in
          (stops_early first second c f.place u.0, way.0, ap (λ (r : Reading). opening (shows r)) way.1 ∙ u.2)
      by_case (inr (y, p, q)) = late_open c y.0 y.1 f.place (g y.0 y.1 p) (w2 y.0 y.1 p f q)

  -- the first reader reads a symbol, and does not depend on the next one
  pub well_behind : (c : Reading) → WhereRead first c (λ x d. (fr : FreeOn first c x d) × ((ss : List Symbol) → opening (plain fr.goes.front ++ ss) ≡ opening (shows c))) → WellOpen lexical first (Then second Aim) c
      → WhereRead first c (λ x d. Well lexical (second x) Aim d) → WellOpen lexical both Aim c
  well_behind c g w1 w2 f e = by_case (case_of c f e)
    where
      late : (x : A) (d : Reading) → (fr : FreeOn first c x d) × ((ss : List Symbol) → opening (plain fr.goes.front ++ ss) ≡ opening (shows c)) → (h : StopsAt (second x) d f.place) × Way (second x) h.front Aim
          → (h : StopsAt both c f.place) × (w : Way both h.front Aim) × (opening (shows w.other) ≡ opening (shows c))
      late x d fr u =
          let gr : (o : Reading) × (shows o ≡ plain fr.0.goes.front ++ shows (u.1.other)) = graft c fr.0.goes.front d fr.0.goes.split u.1.other in
          let n : (next : Reading) × (first gr.0 ≡ Ok (x, next)) × (shows next ≡ shows (u.1.other)) = fr.0.same gr.0 u.1.other gr.1 in
          let way = way_late fr.0.goes.front u.0.front x u.1 gr.0 n.0 gr.1 n.1 n.2 in
          (stops_late first second c x d f.place fr.0.goes u.0, way.0, ap (λ (r : Reading). opening (shows r)) way.1 ∙ ap opening gr.1 ∙ fr.1 (shows (u.1.other)))

      by_case : Case c f → (h : StopsAt both c f.place) × (w : Way both h.front Aim) × (opening (shows w.other) ≡ opening (shows c))
      by_case (inl p) =
          let u = w1 f p in
          let way = way_early u.0.front u.1 in
          (stops_early first second c f.place u.0, way.0, ap (λ (r : Reading). opening (shows r)) way.1 ∙ u.2)
      by_case (inr (y, p, q)) = late y.0 y.1 (g y.0 y.1 p) (w2 y.0 y.1 p f q)

pub from_sat : {A E : Type 0} (read : Reading → Result (A × Reading) E) (Aim : A → List Symbol → Type 0) (s : Sat read Aim) → From read Aim (shows s.start)
from_sat read Aim s = record { start = s.start; there = refl; value = s.value; next = s.next; reads = s.reads; aim = s.aim }

-- a function of what a reader returns
module _ {A B : Type 0} (read : Reading → Result (A × Reading) LexFault) (g : A → B) (Aim : B → List Symbol → Type 0) where
  abbrev pub mapped : Reading → Result (B × Reading) LexFault
  mapped c = read c >>= λ (y : A × Reading). Ok (g y.0, y.1)

  abbrev pub Made : A → List Symbol → Type 0
  Made x ss = Aim (g x) ss

  made : (o : Reading) (x : A) (d : Reading) → read o ≡ Ok (x, d) → mapped o ≡ Ok (g x, d)
  made o x d p = ap (λ (r : Result (A × Reading) LexFault). r >>= λ (y : A × Reading). Ok (g y.0, y.1)) p

  pub sat_mapped : Sat read Made → Sat mapped Aim
  sat_mapped s = record { start = s.start; value = g s.value; next = s.next; reads = made s.start s.value s.next s.reads; aim = s.aim }

  way_mapped : (front : List Placed) → (w : Way read front Made) → (v : Way mapped front Aim) × (v.other ≡ w.other)
  way_mapped front w = (record { other = w.other; more = w.more; there = w.there; value = g w.value; next = w.next; reads = made w.other w.value w.next w.reads; aim = w.aim }, refl)

  never : (y : A × Reading) (f : LexFault) → ◌≢◌ {A = Result (B × Reading) LexFault} (Ok (g y.0, y.1)) (Err f)
  never y f e = absurd cc

  pub well_mapped : (c : Reading) → Well as_is read Made c → Well as_is mapped Aim c
  well_mapped c w f e = by_case (bind_err (read c) (λ (y : A × Reading). Ok (g y.0, y.1)) f e)
    where
      by_case : (read c ≡ Err f) ⊎ ((y : A × Reading) × (read c ≡ Ok y) × (◌≡◌ {A = Result (B × Reading) LexFault} (Ok (g y.0, y.1)) (Err f))) → (h : StopsAt mapped c f.place) × Way mapped h.front Aim
      by_case (inl p) = (let u = w f p in (stops_early read (λ x d. Ok (g x, d)) c f.place u.0, (way_mapped u.0.front u.1).0))
      by_case (inr (y, p, q)) = absurd (never y f q)

  pub well_open_mapped : (c : Reading) → WellOpen as_is read Made c → WellOpen as_is mapped Aim c
  well_open_mapped c w f e = by_case (bind_err (read c) (λ (y : A × Reading). Ok (g y.0, y.1)) f e)
    where
      by_case : (read c ≡ Err f) ⊎ ((y : A × Reading) × (read c ≡ Ok y) × (◌≡◌ {A = Result (B × Reading) LexFault} (Ok (g y.0, y.1)) (Err f)))
          → (h : StopsAt mapped c f.place) × (w : Way mapped h.front Aim) × (opening (shows w.other) ≡ opening (shows c))
      by_case (inl p) =
          let u = w f p in
          let way = way_mapped u.0.front u.1 in
          (stops_early read (λ x d. Ok (g x, d)) c f.place u.0, way.0, ap (λ (r : Reading). opening (shows r)) way.1 ∙ u.2)
      by_case (inr (y, p, q)) = absurd (never y f q)
