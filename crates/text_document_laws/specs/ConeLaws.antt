-- The laws of cones in text.
use Rattle.std.specs.Prelude.{◌≡◌, ℕ, List, [], Ok, ◌↔◌, ◌++◌}
use Rattle.text_definitions.specs.Text.{Line, lines_of}
use Rattle.text_definitions.specs.Reading.{Reading, ◌>>=◌, need_line_at}
use Rattle.cone_text_definitions.specs.ConeText.{Cone, cone_at}
use Rattle.text_document_definitions.specs.ConeGrammar.{AreConeLines}
use Rattle.text_document_definitions.specs.Documents.{cone_document}

-- a cone is read from the next lines, the rest of the lines is left, and the last line is used up
pub record ReadsCone (c : Reading) (cone : Cone) (rest : List Line) : Type 0 where
  pub left : Reading
  pub read : need_line_at c >>= cone_at ≡ Ok (cone, left)
  pub later : left.later ≡ rest
  pub at_end : left.current.tokens ≡ []

-- lines are read as a cone if and only if they are one
abbrev pub ConesAreRead : Type 0
ConesAreRead = (c : Reading) (cone : Cone) (rest : List Line) → ReadsCone c cone rest ↔ ((lines : List Line) × (c.later ≡ lines ++ rest) × AreConeLines lines cone)

-- bytes are read as a cone if and only if their lines are one
abbrev pub ConeDocumentsAreRead : Type 0
ConeDocumentsAreRead = (bytes : List ℕ) (cone : Cone) → (cone_document bytes ≡ Ok cone) ↔ AreConeLines (lines_of bytes) cone
