-- A component signature, split at its full stops.
use Rattle.std.specs.Prelude.{◌==◌, ◌<◌, ℕ, List, length, IsPermutation}
use Rattle.std.specs.List.{slice_split, AllZip}
use Rattle.table_definitions.specs.Table.{Row, IsTable}
use Rattle.signature_definitions.specs.Spelling.{IsSignature}
use Rattle.component_definitions.specs.Parts.{Part, AreParts}
use Rattle.component_definitions.specs.ComponentSignature.{IsInOrder, IsComponentSignature}

-- the sections between the full stops of a text
abbrev pub between_stops : List ℕ → List (List ℕ)
between_stops text = slice_split (λ b. b == 46) text

-- the texts are the signatures of the parts of the table, in ascending order
pub record ArePartSignatures (rows : List Row) (texts : List (List ℕ)) : Type 0 where
  pub parts : List Part
  pub are_parts : AreParts rows parts
  pub signatures : List (List ℕ)
  pub of_parts : AllZip (λ (part : Part) signature. IsSignature part.rows signature) parts signatures
  pub same : IsPermutation signatures texts
  pub in_order : IsInOrder texts

-- split at its full stops, the component signature of a table of some tetrahedra is the signatures of its parts
abbrev pub ComponentSignaturesSplit : Type 0
ComponentSignaturesSplit = (rows : List Row) (text : List ℕ) → IsTable rows → 0 < length rows → IsComponentSignature rows text → ArePartSignatures rows (between_stops text)
