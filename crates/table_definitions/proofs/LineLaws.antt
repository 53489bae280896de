-- Lines that are begun and ended, and the words of a line.
use Rattle.std.proofs.Common.{◌≡◌, ℕ, List, [], ◌∷◌, Ok, refl, sym, ap, subst}
use Rattle.text_definitions.specs.Text.{Token, word, stray, Line}
use Rattle.text_definitions.specs.Reading.{Reading, begun, need_line_at, end_line_at}
use Rattle.table_definitions.specs.Grammar.{AreWords}
use Rattle.table_definitions.proofs.ReadingLaws.{with_tokens}

-- a line that was begun
pub record BeginsLine (c d : Reading) : Type 0 where
  pub line : Line
  pub rest : List Line
  pub lines : c.later ≡ line ∷ rest
  pub left : d ≡ begun line rest c

-- the reading with these remaining lines
abbrev pub with_later : List Line → Reading → Reading
with_later ls c = record c { later = ls }

pub line_begun_in : (ls : List Line) (c d : Reading) → need_line_at (with_later ls c) ≡ Ok d → BeginsLine (with_later ls c) d
unfolding need_line_at
line_begun_in [] c d e = absurd cc
line_begun_in (l ∷ ls) c d e = record { line = l; rest = ls; lines = refl; left = cc }

pub line_begun : (c d : Reading) → need_line_at c ≡ Ok d → BeginsLine c d
line_begun c d e = line_begun_in c.later c d e

pub line_found : (c : Reading) (l : Line) (ls : List Line) → c.later ≡ l ∷ ls → need_line_at c ≡ Ok (begun l ls c)
unfolding need_line_at
line_found c l ls e = subst (λ (ms : List Line). need_line_at (with_later ms c) ≡ Ok (begun l ls c)) (sym e) refl

-- a line that was ended
pub line_ended : (ts : List Token) (c d : Reading) → end_line_at (with_tokens ts c) ≡ Ok d → (ts ≡ []) × (d ≡ with_tokens [] c)
unfolding end_line_at
line_ended [] c d e = (refl, cc)
line_ended (stray column ∷ ts) c d e = absurd cc
line_ended (word column w ∷ ts) c d e = absurd cc

pub end_found : (ts : List Token) (c : Reading) → ts ≡ [] → end_line_at (with_tokens ts c) ≡ Ok (with_tokens [] c)
unfolding end_line_at
end_found ts c e = ap (λ (us : List Token). end_line_at (with_tokens us c)) e

-- the first word of a line, and the other words
pub record FirstWord (ts : List Token) (w : List ℕ) (ws : List (List ℕ)) : Type 0 where
  pub column : ℕ
  pub rest : List Token
  pub tokens : ts ≡ word column w ∷ rest
  pub others : AreWords rest ws

pub first_word : (ts : List Token) (w : List ℕ) (ws : List (List ℕ)) → AreWords ts (w ∷ ws) → FirstWord ts w ws
first_word [] w ws a = absurd a
first_word (stray column ∷ ts) w ws a = absurd a.0
first_word (word column v ∷ ts) w ws a = record { column = column; rest = ts; tokens = ap (λ (u : List ℕ). word column u ∷ ts) a.0; others = a.1 }

pub no_words : (ts : List Token) → AreWords ts [] → ts ≡ []
no_words [] a = refl
no_words (t ∷ ts) a = absurd a
