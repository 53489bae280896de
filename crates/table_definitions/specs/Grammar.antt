-- The forms of words, numbers and tables in text, as relations between lines and values; nothing here says how a line
-- is read.
use Rattle.std.specs.Prelude.{◌≡◌, ℕ, ◌-◌, ◌^◌, ◌≤◌, List, [], ◌∷◌, ◌++◌, length, Option, Some, None, ℤ, pos, neg_ℤ, ◌⊎◌, codes}
use Rattle.std.specs.List.{AllZip}
use Rattle.table_definitions.specs.Permutation.{digits_of, IsPermutationOfFour}
use Rattle.table_definitions.specs.Table.{Gluing, Row, IsTable}
use Rattle.text_definitions.specs.Text.{Token, word, stray, Line, decimal_value}

-- a token is a word
abbrev pub IsWord : Token → List ℕ → Type 0
IsWord (word column w) v = w ≡ v
IsWord (stray column) v = ⊥

-- the tokens are these words
abbrev pub AreWords : List Token → List (List ℕ) → Type 0
AreWords tokens ws = AllZip IsWord tokens ws

-- a decimal up to max
pub record IsDecimalUpTo (max : ℕ) (w : List ℕ) (n : ℕ) : Type 0 where
  pub value : decimal_value w ≡ Some n
  pub up_to : n ≤ max

-- a signed decimal up to max in magnitude
abbrev pub IsSigned : ℕ → List ℕ → ℤ → Type 0
IsSigned max w z = (v : List ℕ) × (n : ℕ) × IsDecimalUpTo max v n × (((w ≡ v) × (z ≡ pos n)) ⊎ ((w ≡ codes "-" ++ v) × (z ≡ neg_ℤ (pos n))))

-- a decimal, a colon and the four digits of a permutation
pub record IsGluingWord (w : List ℕ) (g : Gluing) : Type 0 where
  pub tet : List ℕ
  pub number : IsDecimalUpTo (2 ^ 32 - 1) tet g.tet
  pub permutes : IsPermutationOfFour g.perm
  pub spelled : w ≡ tet ++ codes ":" ++ digits_of g.perm

-- the word of a boundary face, and of one that is glued
abbrev pub IsEntry : List ℕ → Option Gluing → Type 0
IsEntry w None = w ≡ codes "-"
IsEntry w (Some g) = IsGluingWord w g

-- a line of four entries
pub record IsRowLine (line : Line) (row : Row) : Type 0 where
  pub ws : List (List ℕ)
  pub are_words : AreWords line.tokens ws
  pub entries : AllZip IsEntry ws row
  pub four_faces : length row ≡ 4

-- a line `tri N` and N lines of a row each, the rows of a table
abbrev pub AreTriLines : List Line → List Row → Type 0
AreTriLines [] rows = ⊥
AreTriLines (line ∷ lines) rows =
    (n : List ℕ) × AreWords line.tokens (codes "tri" ∷ n ∷ []) × (decimal_value n ≡ Some (length rows)) × AllZip IsRowLine lines rows × IsTable rows
