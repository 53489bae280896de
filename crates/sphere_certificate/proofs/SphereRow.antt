-- The row of the standard sphere.
use Rattle.std.proofs.Common.{◌≡◌, ℕ, List, [], ◌∷◌, Option, refl}
use Rattle.table_definitions.specs.Permutation.{IsPermutationOfFour, is_permutation}
use Rattle.table_definitions.specs.Table.{Gluing}
use Rattle.move_definitions.specs.Certificates.{standard_sphere, to_itself}

-- a face that is glued to another face of its tetrahedron, if the word is a permutation
abbrev pub IsGlued : List ℕ → Option Gluing → Type 0
IsGlued p face = IsPermutationOfFour p → face ≡ to_itself p

pub row_is : (a b c d : Option Gluing) → IsGlued (1 ∷ 0 ∷ 2 ∷ 3 ∷ []) a → IsGlued (1 ∷ 0 ∷ 2 ∷ 3 ∷ []) b → IsGlued (1 ∷ 2 ∷ 3 ∷ 0 ∷ []) c → IsGlued (3 ∷ 0 ∷ 1 ∷ 2 ∷ []) d
    → (a ∷ b ∷ c ∷ d ∷ []) ∷ [] ≡ standard_sphere
unfolding is_permutation
row_is a b c d p q r s = λ i. (p refl i ∷ q refl i ∷ r refl i ∷ s refl i ∷ []) ∷ []
