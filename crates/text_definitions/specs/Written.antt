-- A line written from words, truth values, and the greatest number in an input.
use Rattle.std.specs.Prelude.{ℕ, Bool, true, false, List, [], ◌∷◌, ◌++◌, codes}

-- the greatest number that a document may name, 2 ^ 127 - 1
abbrev pub limit : ℕ
limit = 170141183460469231731687303715884105727

-- the texts with a space between each two, and a line feed
abbrev pub spaced : List (List ℕ) → List ℕ
spaced [] = 10 ∷ []
spaced (w ∷ []) = w ++ 10 ∷ []
spaced (w ∷ x ∷ ws) = w ++ (32 ∷ spaced (x ∷ ws))

-- a text as a line
abbrev pub line : List ℕ → List ℕ
line text = text ++ 10 ∷ []

abbrev pub yes_or_no : Bool → List ℕ
yes_or_no true = codes "yes"
yes_or_no false = codes "no"
