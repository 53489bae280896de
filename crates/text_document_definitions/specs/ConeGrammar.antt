-- The form of a cone in text, as a relation between lines and cones.
use Rattle.std.specs.Prelude.{◌≡◌, ℕ, zero, suc, ℤ, List, [], ◌∷◌, length, replicate, codes}
use Rattle.std.specs.List.{AllZip}
use Rattle.text_definitions.specs.Text.{Line}
use Rattle.cone_text_definitions.specs.ConeText.{Cone}
use Rattle.table_definitions.specs.Grammar.{AreWords, IsDecimalUpTo, IsSigned}

-- a line of `columns` signed decimals
pub record IsCoefficientLine (columns : ℕ) (line : Line) (row : List ℤ) : Type 0 where
  pub ws : List (List ℕ)
  pub are_words : AreWords line.tokens ws
  pub coefficients : AllZip (IsSigned 1000000) ws row
  pub many : length row ≡ columns

-- a line for each row; if there are no columns, no line, and rows without coefficients
abbrev pub AreConeRows : ℕ → List Line → List (List ℤ) → Type 0
AreConeRows zero lines rows = (lines ≡ []) × (rows ≡ replicate (length rows) [])
AreConeRows (suc columns) lines rows = AllZip (IsCoefficientLine (suc columns)) lines rows

-- a line `cone C R` and the lines of R rows of C coefficients
abbrev pub AreConeLines : List Line → Cone → Type 0
AreConeLines [] cone = ⊥
AreConeLines (line ∷ lines) cone =
    (c : List ℕ) × (r : List ℕ) × AreWords line.tokens (codes "cone" ∷ c ∷ r ∷ []) × IsDecimalUpTo 10000 c cone.columns × IsDecimalUpTo 10000 r (length cone.rows) × AreConeRows cone.columns lines cone.rows
