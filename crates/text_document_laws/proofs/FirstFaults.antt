-- If the text of a document with tables is refused, the error is at the first symbol after which no continuation is
-- such a text.
use Rattle.std.proofs.Common.{◌≡◌, ◌≢◌, ℕ, List, [], ◌∷◌, ◌++◌, Some, Ok, refl, sym, ap, ◌∙◌}
use Rattle.std.specs.Prelude.{⊤}
use Rattle.text_definitions.specs.declared.Place.{Place}
use Rattle.text_definitions.specs.Text.{Token, Line, lines_of, end_of}
use Rattle.text_definitions.specs.Reading.{Reading, start_of}
use Rattle.text_document_definitions.specs.Symbols.{Symbol, line_end, Placed, line_symbols, symbols_of, plain, FirstLeavesAt}
use Rattle.text_document_laws.proofs.Local.{left_symbols, shows, opening, StopsAt}
use Rattle.text_document_laws.proofs.LocalWords.{end_there}
use Rattle.text_document_laws.proofs.Ways.{Way, heads as tails}
use Rattle.text_document_laws.proofs.LeavingCones.{same_symbols}
use Rattle.text_document_laws.proofs.TextReaders.{Read}

-- the first symbol of a reading at the end of a line is that end
no_line_begun : (c : Reading) → c.current.tokens ≡ [] → left_symbols c ≡ (record { line = c.current.number; column = c.current.end }, line_end) ∷ symbols_of c.input_end c.later
unfolding line_symbols
no_line_begun c none = ap (λ (ts : List Token). line_symbols c.current.number ts c.current.end (symbols_of c.input_end c.later)) none

shows_behind : (c : Reading) → c.current.tokens ≡ [] → shows c ≡ line_end ∷ plain (symbols_of c.input_end c.later)
shows_behind c none = ap plain (no_line_begun c none)

cons_of : (ss : List Symbol) (s : Symbol) → opening ss ≡ Some s → (more : List Symbol) × (ss ≡ s ∷ more)
cons_of [] s e = absurd cc
cons_of (x ∷ ss) s e = (let same : x ≡ s = cc in (ss, ap (λ (y : Symbol). y ∷ ss) same))

-- the reading c with other remaining lines
abbrev pub with_lines : Reading → List Line → Reading
with_lines c lines = record c { later = lines }

-- a reader that succeeds if and only if all remaining lines are in the grammar, from a reading between lines: its error
-- is at the first symbol after which no continuation is in the grammar
module _ (read : Reading → Read) (Aim : ⊤ → List Symbol → Type 0) (InGrammar : List Line → Type 0)
    (complete : (c : Reading) → InGrammar c.later → (y : ⊤ × Reading) × (read c ≡ Ok y))
    (sound : (o : Reading) (u : ⊤) (next : Reading) → read o ≡ Ok (u, next) → Aim u (shows next) → InGrammar o.later) where
  abbrev Same : Reading → List Placed → Symbol → Type 0
  Same c front symbol = (other : Reading) (more : List Symbol) → shows other ≡ plain front ++ symbol ∷ more → (x : ⊤ × Reading) → read other ≢ Ok x

  module _ (c : Reading) (begun_none : c.current.tokens ≡ []) where
    abbrev First : Place → Type 0
    First p = FirstLeavesAt InGrammar c.input_end c.later p

    -- the error is not at the end of the line before the remaining ones
    not_begun : (p : Place) (symbol : Symbol) (after : List Placed) → left_symbols c ≡ (p, symbol) ∷ after → Same c [] symbol → (w : Way read [] Aim) → opening (shows w.other) ≡ opening (shows c) → ⊥
    not_begun p symbol after split same w opens =
        let first : opening (shows w.other) ≡ Some symbol = opens ∙ ap (λ (ss : List Placed). opening (plain ss)) split in
        let there : (more : List Symbol) × (shows w.other ≡ symbol ∷ more) = cons_of (shows w.other) symbol first in
        same w.other there.0 there.1 (w.value, w.next) w.reads

    behind_start : (p : Place) (s : Placed) (front : List Placed) (symbol : Symbol) (after : List Placed) → left_symbols c ≡ s ∷ (front ++ (p, symbol) ∷ after) → Same c (s ∷ front) symbol
        → (w : Way read (s ∷ front) Aim) → opening (shows w.other) ≡ opening (shows c) → First p
    behind_start p s front symbol after split same w opens =
        let here : Placed = (record { line = c.current.number; column = c.current.end }, line_end) in
        let parts : (here ≡ s) × (symbols_of c.input_end c.later ≡ front ++ (p, symbol) ∷ after) =
        tails here s (symbols_of c.input_end c.later) (front ++ (p, symbol) ∷ after) (sym (no_line_begun c begun_none) ∙ split) in
        let ends : line_end ≡ s.1 = ap (λ (q : Placed). q.1) parts.0 in
        let none : w.other.current.tokens ≡ [] = end_there w.other.current.tokens w.other (opens ∙ ap opening (shows_behind c begun_none)) in
        let shown : plain (symbols_of w.other.input_end w.other.later) ≡ plain front ++ w.more =
        (tails line_end s.1 (plain (symbols_of w.other.input_end w.other.later)) (plain front ++ w.more) (sym (shows_behind w.other none) ∙ w.there)).1 in
        record {
          leaves = record {
            before = front;
            symbol = symbol;
            after = after;
            occurs = parts.1;
            no_way_on =
                λ others more e g. (let y : (y : ⊤ × Reading) × (read (with_lines c others) ≡ Ok y) = complete (with_lines c others) g in
                same (with_lines c others) more
                (shows_behind (with_lines c others) begun_none ∙ ap (λ (ss : List Symbol). line_end ∷ ss) e ∙ ap (λ (q : Symbol). q ∷ (plain front ++ symbol ∷ more)) ends) y.0 y.1);
          };
          others = w.other.later;
          more = w.more;
          shown_before = same_symbols c.input_end w.other.input_end w.other.later ∙ shown;
          way_on = sound w.other w.value w.next w.reads w.aim;
        }

    by_front : (p : Place) (front : List Placed) (symbol : Symbol) (after : List Placed) → left_symbols c ≡ front ++ (p, symbol) ∷ after → Same c front symbol
        → (w : Way read front Aim) → opening (shows w.other) ≡ opening (shows c) → First p
    by_front p [] symbol after split same w opens = absurd (not_begun p symbol after split same w opens)
    by_front p (s ∷ front) symbol after split same w opens = behind_start p s front symbol after split same w opens

    pub left_first : (p : Place) → (h : StopsAt read c p) × (w : Way read h.front Aim) × (opening (shows w.other) ≡ opening (shows c)) → First p
    left_first p u = by_front p u.0.front u.0.symbol u.0.after u.0.split u.0.same u.1 u.2

  -- as `left_first`, for a whole document
  pub comes_first : (bytes : List ℕ) (p : Place) → (h : StopsAt read (start_of bytes) p) × (w : Way read h.front Aim) × (opening (shows w.other) ≡ opening (shows (start_of bytes)))
      → FirstLeavesAt InGrammar (end_of bytes) (lines_of bytes) p
  comes_first bytes p u = left_first (start_of bytes) refl p u
