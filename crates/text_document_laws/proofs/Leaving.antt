-- Documents: if one is refused, its lines leave the grammar.
use Rattle.std.proofs.Common.{◌≡◌, ◌≢◌, ℕ, List, [], ◌∷◌, ◌++◌, Some, Result, Ok, refl, sym, ap, ◌∙◌}
use Rattle.text_definitions.specs.declared.Place.{Place}
use Rattle.text_definitions.specs.Text.{Line, lines_of, end_of}
use Rattle.text_definitions.specs.Reading.{Reading, begun, start_of, end_line_at}
use Rattle.text_document_definitions.specs.Documents.{no_line_at, no_line_from}
use Rattle.text_document_definitions.specs.Symbols.{Symbol, input_end, Placed, symbols_of, plain, LeavesAt}
use Rattle.text_document_laws.proofs.Local.{left_symbols, shows, opening, opening_more, plain-append, StopsAt, alone, moved}
use Rattle.text_document_laws.proofs.LocalLines.{by_lines, Further, further_in, no_input_end, none_stop}

-- a reading between lines, and the place among the remaining lines where `read` fails
pub record StopsBehind {X E : Type 0} (read : Reading → Result X E) (c : Reading) (p : Place) : Type 0 where
  pub front : List Placed
  pub symbol : Symbol
  pub after : List Placed
  pub split : symbols_of c.input_end c.later ≡ front ++ (p, symbol) ∷ after
  pub same : (other : Reading) (more : List Symbol) → plain (symbols_of other.input_end other.later) ≡ plain front ++ symbol ∷ more → (x : X) → read other ≢ Ok x

pub no_line_symbols : (p : Place) → symbols_of p [] ≡ (p, input_end) ∷ []
unfolding symbols_of
no_line_symbols p = refl

pub begun_symbols : (c : Reading) (l : Line) (ls : List Line) → symbols_of c.input_end (l ∷ ls) ≡ left_symbols (begun l ls c)
unfolding symbols_of
begun_symbols c l ls = refl

module _ {X E : Type 0} (stop go : Reading → Result X E) where
  abbrev pub reads : Reading → Result X E
  reads c = by_lines stop go c.later c

  pub none_left : (ls : List Line) (other : Reading) (more : List Symbol) → plain (symbols_of other.input_end ls) ≡ input_end ∷ more → ((d : Reading) (x : X) → stop d ≢ Ok x) → (x : X) → by_lines stop go ls other ≢ Ok x
  unfolding symbols_of
  none_left [] other more e n x p = n other x p
  none_left (l ∷ ls) other more e n x p = no_input_end l.number l.tokens l.end (symbols_of other.input_end ls) (ap opening e)

  abbrev pub behind_end : (c : Reading) (p : Place) → c.later ≡ [] → p ≡ c.input_end → ((d : Reading) (x : X) → stop d ≢ Ok x) → StopsBehind reads c p
  behind_end c p split there n = record {
    front = [];
    symbol = input_end;
    after = [];
    split = ap (λ (ls : List Line). symbols_of c.input_end ls) split ∙ no_line_symbols c.input_end ∙ ap (λ (q : Place). (q, input_end) ∷ []) (sym there);
    same = λ other more e x q. none_left other.later other more e n x q;
  }

  abbrev pub behind_line : (c : Reading) (l : Line) (ls : List Line) (p : Place) → c.later ≡ l ∷ ls → StopsAt go (begun l ls c) p → StopsBehind reads c p
  behind_line c l ls p split h = record {
    front = h.front;
    symbol = h.symbol;
    after = h.after;
    split = ap (λ (ks : List Line). symbols_of c.input_end ks) split ∙ begun_symbols c l ls ∙ h.split;
    same =
        λ other more e x q. (let next : List Symbol = plain h.front ++ h.symbol ∷ more in
        let there : shows (begun l ls c) ≡ plain h.front ++ h.symbol ∷ plain h.after = ap plain h.split ∙ plain-append h.front ((p, h.symbol) ∷ h.after) in
        let none : opening next ≢ Some input_end =
        λ o. no_input_end l.number l.tokens l.end (symbols_of c.input_end ls) (ap opening there ∙ opening_more (plain h.front) (h.symbol ∷ plain h.after) (h.symbol ∷ more) refl ∙ o) in
        let f : Further other next = further_in other.later other next refl e none in
        h.same (begun f.line f.rest other) more f.there x (sym (ap (λ (ks : List Line). by_lines stop go ks other) f.lines) ∙ q));
  }

-- if `read` reads all lines of a grammar, lines leave the grammar where it fails
abbrev pub start_with : List ℕ → List Line → Reading
start_with bytes lines = record (start_of bytes) { later = lines }

abbrev pub leaves : {X E : Type 0} (read : Reading → Result X E) (InGrammar : List Line → Type 0) (bytes : List ℕ) (p : Place) → StopsBehind read (start_of bytes) p
    → ((others : List Line) → InGrammar others → (x : X) × (read (start_with bytes others) ≡ Ok x)) → LeavesAt InGrammar (end_of bytes) (lines_of bytes) p
leaves read InGrammar bytes p h found = record {
  before = h.front;
  symbol = h.symbol;
  after = h.after;
  occurs = h.split;
  no_way_on = λ others more e g. (let r = found others g in h.same (start_with bytes others) more e r.0 r.1);
}

-- no line remains
pub no_line_alone : (c : Reading) → by_lines none_stop (moved end_line_at) c.later c ≡ alone (no_line_at c)
no_line_alone c = by_list c.later
  where
    by_list : (ls : List Line) → by_lines none_stop (moved end_line_at) ls c ≡ alone (no_line_from ls c)
    by_list [] = refl
    by_list (l ∷ ls) = refl
