-- The form of a signature in text, and a table in either form, as relations between lines and rows.
use Rattle.std.specs.Prelude.{ℕ, List, [], ◌∷◌, ◌⊎◌, codes}
use Rattle.table_definitions.specs.Table.{Row}
use Rattle.text_definitions.specs.Text.{Line}
use Rattle.signature_definitions.specs.Spelling.{Spells}
use Rattle.table_definitions.specs.Grammar.{AreWords, AreTriLines}

-- one line `sig TEXT`, whose text spells the table
abbrev pub AreSigLines : List Line → List Row → Type 0
AreSigLines [] rows = ⊥
AreSigLines (line ∷ []) rows = (text : List ℕ) × AreWords line.tokens (codes "sig" ∷ text ∷ []) × Spells text rows
AreSigLines (line ∷ next ∷ lines) rows = ⊥

-- a table in either form
abbrev pub AreTableLines : List Line → List Row → Type 0
AreTableLines lines rows = AreTriLines lines rows ⊎ AreSigLines lines rows
