-- The relabelling from one table to another that `csame` prints, component by component.
use Rattle.std.specs.Prelude.{◌≡◌, ℕ, ◌<◌, true, List, [], length, slice_index, IsPermutation, ◌⊎◌}
use Rattle.std.specs.List.{slice_index_or, AllZip}
use Rattle.table_definitions.specs.Lists.{below, is_list_before}
use Rattle.table_definitions.specs.Table.{Row}
use Rattle.table_definitions.specs.Relabelling.{Relabelling, IsRelabelling, relabelled_place}
use Rattle.signature_definitions.specs.Spelling.{IsSignature}
use Rattle.signature_definitions.specs.Labellings.{IsLeastRelabelling}
use Rattle.component_definitions.specs.Parts.{Part, first_of, AreParts}

-- the part of a number
abbrev pub part_at : List Part → ℕ → Part
part_at parts i = slice_index_or parts i (record { rows = []; numbers = [] })

-- component i comes before component j: by signature, then by least tetrahedron
abbrev pub PrecedesPart : List Part → List (List ℕ) → ℕ → ℕ → Type 0
PrecedesPart parts signatures i j =
    (is_list_before (slice_index_or signatures i []) (slice_index_or signatures j []) ≡ true)
    ⊎ ((slice_index_or signatures i [] ≡ slice_index_or signatures j []) × (first_of (part_at parts i) < first_of (part_at parts j)))

-- the parts of a table, their signatures, and the numbers of the parts in that order
pub record ArePartsInOrder (rows : List Row) (parts : List Part) (order : List ℕ) : Type 0 where
  pub are_parts : AreParts rows parts
  pub signatures : List (List ℕ)
  pub of_parts : AllZip (λ (part : Part) signature. IsSignature part.rows signature) parts signatures
  pub permutes : IsPermutation order (below (length parts))
  pub in_order : (i j : ℕ) → i < j → j < length order → PrecedesPart parts signatures (slice_index order i) (slice_index order j)

-- the component is carried to the other one by a relabelling of their rows
abbrev pub GoesBy : Relabelling → Part → Part → Relabelling → Type 0
GoesBy by part other r =
    (k : ℕ) → k < length part.numbers
    → relabelled_place by (slice_index part.numbers k) ≡ record { tet = slice_index other.numbers (slice_index r.images k); perm = slice_index_or r.perms k [] }

-- with the components in order, each is carried to the component of the other table with the same index, by the
-- relabelling defined for the two
pub record IsSameParts (first second : List Row) (by : Relabelling) : Type 0 where
  pub relabelling : IsRelabelling (length first) by
  pub parts : List Part
  pub order : List ℕ
  pub in_order : ArePartsInOrder first parts order
  pub others : List Part
  pub other_order : List ℕ
  pub others_in_order : ArePartsInOrder second others other_order
  pub as_many : length parts ≡ length others
  pub each : (i : ℕ) → i < length order → (r : Relabelling)
      × IsLeastRelabelling (part_at parts (slice_index order i)).rows (part_at others (slice_index other_order i)).rows r
      × GoesBy by (part_at parts (slice_index order i)) (part_at others (slice_index other_order i)) r
