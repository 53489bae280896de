-- The beginning of the rest of a line.
use Rattle.std.specs.Prelude.{◌≡◌, ℕ, ◌+◌, ◌<◌, List, [], ◌∷◌, length, if◌then◌else◌}
use Rattle.text_definitions.specs.Text.{Token, word, stray, is_blank, tokens_from}
use Rattle.text_io.specs.declared.front.Front.{Front}
use Rattle.text_io.specs.declared.front.Front.TheVariants.{End, Stray, Word}

-- the bytes from the first that is neither a space nor a tab
abbrev pub drop_blanks : List ℕ → List ℕ
drop_blanks [] = []
drop_blanks (b ∷ bs) = if is_blank b then drop_blanks bs else b ∷ bs

-- what comes first in bytes that begin in column c, and the column at in which it begins
abbrev pub IsFront : ℕ → List ℕ → ℕ → Front → Type 0
IsFront c bytes at End = (tokens_from c bytes ≡ []) × (at ≡ c + length bytes)
IsFront c bytes at Stray = ((ts : List Token) × (tokens_from c bytes ≡ stray at ∷ ts)) × (at < c + length bytes)
IsFront c bytes at (Word w after) =
    (tokens_from c bytes ≡ word at w.now ∷ tokens_from (at + length w.now) after.now) × (at + length w.now + length after.now ≡ c + length bytes)
