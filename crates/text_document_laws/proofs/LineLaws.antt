-- Each line of an input has a token.
use Rattle.std.proofs.Common.{◌≡◌, ◌≢◌, ℕ, ◌+◌, Bool, true, false, List, [], ◌∷◌, ◌++◌, Ok, refl, ap}
use Rattle.std.specs.Prelude.{◌==◌, if◌then◌else◌}
use Rattle.std.specs.List.{AllByRecursion}
use Rattle.text_definitions.specs.Text.{Token, word, stray, Line, is_blank, is_word_byte, join_byte, tokens_from, is_skipped, without_cr, pieces, line_of, lines_from, lines_of}
use Rattle.text_definitions.specs.Reading.{Reading, begun}
use Rattle.text_document_definitions.specs.Documents.{no_line_at, no_line_from}
use Rattle.table_definitions.proofs.LineLaws.{line_ended}

-- each line has a token
abbrev pub HaveTokens : List Line → Type 0
HaveTokens lines = AllByRecursion (λ (l : Line). l.tokens ≢ []) lines

joined : (c b : ℕ) (ts : List Token) → join_byte c b ts ≢ []
joined c b [] e = absurd cc
joined c b (stray d ∷ ts) e = absurd cc
joined c b (word d w ∷ ts) e = by_test (d == c + 1) e
  where
    by_test : (t : Bool) → (if t then word c (b ∷ w) ∷ ts else word c (b ∷ []) ∷ word d w ∷ ts) ≢ []
    by_test true f = absurd cc
    by_test false f = absurd cc

tokens_there : (c : ℕ) (bs : List ℕ) → is_skipped bs ≡ false → tokens_from c bs ≢ []
unfolding tokens_from
tokens_there c [] s e = absurd cc
tokens_there c (b ∷ bs) s e = by_blank (is_blank b) refl s e (tokens_there (c + 1) bs)
  where
    by_word : (t : Bool) → (if t then join_byte c b (tokens_from (c + 1) bs) else stray c ∷ tokens_from (c + 1) bs) ≢ []
    by_word true f = joined c b (tokens_from (c + 1) bs) f
    by_word false f = absurd cc

    by_blank : (t : Bool) → is_blank b ≡ t → (if t then is_skipped bs else (b == 35)) ≡ false
        → (if t then tokens_from (c + 1) bs else (if is_word_byte b then join_byte c b (tokens_from (c + 1) bs) else stray c ∷ tokens_from (c + 1) bs)) ≡ []
        → (is_skipped bs ≡ false → tokens_from (c + 1) bs ≢ []) → ⊥
    by_blank true t s e h = h s e
    by_blank false t s e h = by_word (is_word_byte b) e

lines_there : (n : ℕ) (ps : List (List ℕ)) → HaveTokens (lines_from n ps)
unfolding lines_from
lines_there n [] = tt
lines_there n (p ∷ ps) = by_test (is_skipped (without_cr p)) refl (lines_there (n + 1) ps)
  where
    by_test : (t : Bool) → is_skipped (without_cr p) ≡ t → HaveTokens (lines_from (n + 1) ps) → HaveTokens (if t then lines_from (n + 1) ps else line_of n (without_cr p) ∷ lines_from (n + 1) ps)
    by_test true t h = h
    by_test false t h = (tokens_there 1 (without_cr p) t, h)

pub lines_have_tokens : (bytes : List ℕ) → HaveTokens (lines_of bytes)
lines_have_tokens bytes = lines_there 1 (pieces bytes)

pub rest_has_tokens : (front back : List Line) → HaveTokens (front ++ back) → HaveTokens back
rest_has_tokens [] back h = h
rest_has_tokens (l ∷ front) back h = rest_has_tokens front back h.1

-- no line remains
pub no_line_left : (c d : Reading) → no_line_at c ≡ Ok d → HaveTokens c.later → c.later ≡ []
no_line_left c d e h = by_lines c.later e h
  where
    by_lines : (ls : List Line) → no_line_from ls c ≡ Ok d → HaveTokens ls → ls ≡ []
    by_lines [] e h = refl
    by_lines (l ∷ ls) e h = absurd (h.0 (line_ended l.tokens (begun l ls c) d e).0)

pub no_line_found : (c : Reading) → c.later ≡ [] → no_line_at c ≡ Ok c
no_line_found c e = ap (λ (ls : List Line). no_line_from ls c) e
