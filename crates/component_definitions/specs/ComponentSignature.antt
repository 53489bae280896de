-- The component signature of a table: the signatures of its parts, in ascending order.
use Rattle.std.specs.Prelude.{◌≡◌, ℕ, false, List, [], ◌∷◌, ◌++◌, codes, IsPermutation}
use Rattle.std.specs.List.{AllPairs, AllZip}
use Rattle.table_definitions.specs.Lists.{is_list_before}
use Rattle.table_definitions.specs.Table.{Row}
use Rattle.signature_definitions.specs.Spelling.{IsSignature}
use Rattle.component_definitions.specs.Parts.{Part, AreParts}

-- the texts with a full stop between each two; the signature of the empty table if there is none
abbrev pub component_text : List (List ℕ) → List ℕ
component_text [] = codes "a"
component_text (text ∷ []) = text
component_text (text ∷ next ∷ texts) = text ++ (codes "." ++ component_text (next ∷ texts))

-- the texts are in ascending order
abbrev pub IsInOrder : List (List ℕ) → Type 0
IsInOrder texts = AllPairs (λ text later. is_list_before later text ≡ false) texts

-- the signatures of the parts, each as often as it occurs, in ascending order
pub record IsComponentSignature (rows : List Row) (text : List ℕ) : Type 0 where
  pub parts : List Part
  pub are_parts : AreParts rows parts
  pub signatures : List (List ℕ)
  pub of_parts : AllZip (λ (part : Part) signature. IsSignature part.rows signature) parts signatures
  pub ordered : List (List ℕ)
  pub same : IsPermutation signatures ordered
  pub in_order : IsInOrder ordered
  pub joined : text ≡ component_text ordered
