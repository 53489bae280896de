-- A relabelling that is written part by part.
use Rattle.std.specs.Prelude.{◌≡◌, ℕ, ◌<◌, List, length, slice_index}
use Rattle.table_definitions.specs.Table.{Row, IsTable}
use Rattle.table_definitions.specs.Relabelling.{Relabelling}
use Rattle.signature_definitions.specs.Labellings.{IsLeastRelabelling}
use Rattle.component_definitions.specs.Parts.{Part, AreParts}
use Rattle.component_definitions.specs.SameParts.{part_at, GoesBy}
use Rattle.component_laws.specs.Ordered.{Entry, texts_of, AreInOrder}

-- the parts of two tables in order, with the same signatures place by place; the first table has n tetrahedra
pub record AreMatched (n : ℕ) (parts : List Part) (entries : List Entry) (others : List Part) (other_entries : List Entry) : Type 0 where
  pub first : List Row
  pub second : List Row
  pub first_table : IsTable first
  pub second_table : IsTable second
  pub size : length first ≡ n
  pub are_parts : AreParts first parts
  pub in_order : AreInOrder parts entries
  pub are_others : AreParts second others
  pub others_in_order : AreInOrder others other_entries
  pub same : texts_of entries ≡ texts_of other_entries

-- of the components at the first i places of the orders, each is mapped to the component of the other table there, by
-- the relabelling that is defined for the two
abbrev pub AreWritten : List Part → List ℕ → List Part → List ℕ → ℕ → Relabelling → Type 0
AreWritten parts order others other_order i by =
    (k : ℕ) → k < i → (r : Relabelling)
    × IsLeastRelabelling (part_at parts (slice_index order k)).rows (part_at others (slice_index other_order k)).rows r
    × GoesBy by (part_at parts (slice_index order k)) (part_at others (slice_index other_order k)) r
