-- The form of a vector in text, as a relation between lines and vectors.
use Rattle.std.specs.Prelude.{ℕ, List, ◌∷◌, codes}
use Rattle.std.specs.List.{AllZip}
use Rattle.text_definitions.specs.Text.{Line}
use Rattle.text_definitions.specs.Written.{limit}
use Rattle.table_definitions.specs.Grammar.{AreWords, IsDecimalUpTo}

-- a line `vec` and the entries
pub record IsVectorLine (line : Line) (xs : List ℕ) : Type 0 where
  pub ws : List (List ℕ)
  pub are_words : AreWords line.tokens (codes "vec" ∷ ws)
  pub entries : AllZip (IsDecimalUpTo limit) ws xs
