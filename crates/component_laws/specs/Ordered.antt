-- The parts of a table in the order of their signatures.
use Rattle.std.specs.Prelude.{◌≡◌, ℕ, List, length, map, All, IsPermutation}
use Rattle.std.specs.declared.cmp.Ordering.{Ordering}
use Rattle.std.specs.Ordering.{ordering_then, nat_cmp}
use Rattle.std.specs.Cmp.Lexicographic.{slice_cmp}
use Rattle.std.specs.List.Sorted.{IsSorted}
use Rattle.table_definitions.specs.Lists.{below}
use Rattle.signature_definitions.specs.Spelling.{IsSignature}
use Rattle.component_definitions.specs.Parts.{Part}
use Rattle.component_definitions.specs.SameParts.{part_at}

-- a signature, and the number of the part that has it
pub record Entry : Type 0 where
  pub text : List ℕ
  pub number : ℕ

abbrev pub texts_of : List Entry → List (List ℕ)
texts_of entries = map (λ (e : Entry). e.text) entries

abbrev pub numbers_of : List Entry → List ℕ
numbers_of entries = map (λ (e : Entry). e.number) entries

-- the signature of each part, with the number of the part
pub record AreSigned (parts : List Part) (entries : List Entry) : Type 0 where
  pub each : All (λ (e : Entry). IsSignature (part_at parts e.number).rows e.text) entries
  pub numbers : numbers_of entries ≡ below (length parts)

-- by the signature, and then by the number
abbrev pub compared : Entry → Entry → Ordering
compared e f = ordering_then (slice_cmp nat_cmp e.text f.text) (nat_cmp e.number f.number)

-- the same in that order
pub record AreInOrder (parts : List Part) (entries : List Entry) : Type 0 where
  pub made : List Entry
  pub are_signed : AreSigned parts made
  pub same : IsPermutation made entries
  pub sorted : IsSorted compared entries
