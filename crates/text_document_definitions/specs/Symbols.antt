-- The symbols of an input, each with its place, and the place at which an input leaves a grammar.
use Rattle.std.specs.Prelude.{◌≡◌, ℕ, List, [], ◌∷◌, ◌++◌, map}
use Rattle.text_definitions.specs.declared.Place.{Place}
use Rattle.text_definitions.specs.Text.{Token, word, stray, Line}

-- a word, a byte that is none of words, the end of a line, the end of the input
pub data Symbol : Type 0 where
  shown : List ℕ → Symbol
  strange : Symbol
  line_end : Symbol
  input_end : Symbol

-- a place and the symbol at it
abbrev pub Placed : Type 0
Placed = Place × Symbol

-- a token of line n
abbrev pub token_symbol : ℕ → Token → Placed
token_symbol n (word column w) = (record { line = n; column = column }, shown w)
token_symbol n (stray column) = (record { line = n; column = column }, strange)

-- tokens of line n, its end in this column, and what comes after the line
unfoldable pub line_symbols : ℕ → List Token → ℕ → List Placed → List Placed
line_symbols n [] end others = (record { line = n; column = end }, line_end) ∷ others
line_symbols n (t ∷ ts) end others = token_symbol n t ∷ line_symbols n ts end others

-- the lines of an input that ends at a place
unfoldable pub symbols_of : Place → List Line → List Placed
symbols_of end [] = (end, input_end) ∷ []
symbols_of end (l ∷ ls) = line_symbols l.number l.tokens l.end (symbols_of end ls)

-- the symbols alone
abbrev pub plain : List Placed → List Symbol
plain symbols = map (λ (s : Placed). s.1) symbols

-- The symbol at place p leaves the grammar: no lines that show the same symbols up to and including it are in the
-- grammar, whatever follows.
pub record LeavesAt (InGrammar : List Line → Type 0) (end : Place) (lines : List Line) (p : Place) : Type 0 where
  pub before : List Placed
  pub symbol : Symbol
  pub after : List Placed
  pub occurs : symbols_of end lines ≡ before ++ (p, symbol) ∷ after
  pub no_way_on : (others : List Line) (more : List Symbol) → plain (symbols_of end others) ≡ plain before ++ symbol ∷ more → InGrammar others → ⊥

-- As the one before, and no symbol before p is such: what is before p has a continuation in the grammar.
pub record FirstLeavesAt (InGrammar : List Line → Type 0) (end : Place) (lines : List Line) (p : Place) : Type 0 where
  pub leaves : LeavesAt InGrammar end lines p
  pub others : List Line
  pub more : List Symbol
  pub shown_before : plain (symbols_of end others) ≡ plain leaves.before ++ more
  pub way_on : InGrammar others
