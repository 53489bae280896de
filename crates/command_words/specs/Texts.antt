-- Words that are texts.
use Rattle.std.specs.Prelude.{ℕ, ◌==◌, List, [], ◌∷◌, ⊤, Bool, true, ◌&&◌, nat_lt, take, drop, length, count_by, codes}
use Rattle.std.specs.List.{list_any}
use Rattle.std.specs.Str.{IsUtf8, bytes_eq}

abbrev pub AreTexts : List (List ℕ) → Type 0
AreTexts [] = ⊤
AreTexts (w ∷ ws) = IsUtf8 w × AreTexts ws

-- the word of two hyphens
abbrev pub dashes : List ℕ
dashes = 45 ∷ 45 ∷ []

-- whether one of the words is `--`
abbrev pub has_dashes : List (List ℕ) → Bool
has_dashes ws = list_any (λ w. bytes_eq w dashes) ws

-- each option, as a word that leaves its value to the next one
abbrev pub options : List (List ℕ)
options = codes "--coords" ∷ codes "--order" ∷ codes "--max-entry" ∷ codes "--seed" ∷ codes "--moves" ∷ []

-- what may follow an option in its word: nothing, or an equals sign and the value
abbrev pub ends_option : List ℕ → Bool
ends_option [] = true
ends_option (b ∷ bs) = b == 61

-- whether a word names the option, with its value or without
abbrev pub is_naming : List ℕ → List ℕ → Bool
is_naming option w = bytes_eq (take (length option) w) option && ends_option (drop (length option) w)

-- whether more than one of the words names the option
abbrev pub is_repeated : List (List ℕ) → List ℕ → Bool
is_repeated ws option = nat_lt 1 (count_by (λ w. is_naming option w) ws)

-- whether an option is named by more than one of the words
abbrev pub has_repeats : List (List ℕ) → Bool
has_repeats ws = list_any (λ option. is_repeated ws option) options
