-- A vector in text: `vec` and its entries.
use Rattle.std.specs.Prelude.{ℕ, List, ◌∷◌, map, Result, codes, decimal}
use Rattle.std.specs.List.{flat_map}
use Rattle.text_definitions.specs.declared.LexFault.{LexFault}
use Rattle.text_definitions.specs.Reading.{Reading, ◌>>=◌, exactly_at, numbers_at}
use Rattle.text_definitions.specs.Written.{limit, spaced}

-- a line that is a vector, of which no word was taken yet
unfoldable pub vector_at : Reading → Result (List ℕ × Reading) LexFault
vector_at c = do
  entries ← exactly_at (codes "vec") c
  numbers_at limit entries

-- what is written for a vector
abbrev pub vector_text : List ℕ → List ℕ
vector_text x = spaced (codes "vec" ∷ map decimal x)

-- the entries, each after a space
abbrev pub entries_text : List ℕ → List ℕ
entries_text x = flat_map (λ entry. 32 ∷ decimal entry) x

-- a line `vec` for each vector
abbrev pub list_text : List (List ℕ) → List ℕ
list_text vectors = flat_map vector_text vectors
