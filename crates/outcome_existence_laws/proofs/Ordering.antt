-- The components of a table have signatures, and an order by these.
use Rattle.std.proofs.Common.{◌≡◌, ℕ, zero, suc, ◌<◌, ◌≤◌, List, [], ◌∷◌, ◌++◌, length, All, ap, refl, ◌∙◌, arith}
use Rattle.std.proofs.lemmas.List.{map-append}
use Rattle.std.proofs.lemmas.List.Elements.{All-push, All-nil}
use Rattle.table_definitions.specs.Lists.{below}
use Rattle.table_definitions.specs.Table.{Row, IsTable}
use Rattle.table_definitions.proofs.Bijections.{below-push}
use Rattle.signature_definitions.specs.Spelling.{IsSignature}
use Rattle.component_definitions.specs.Parts.{Part, AreParts}
use Rattle.component_definitions.specs.ComponentSignature.{component_text, IsComponentSignature}
use Rattle.component_laws.proofs.Members.{part_at, part_is, part_is_table}
use Rattle.component_laws.proofs.Alone.{part_is_connected}
use Rattle.component_laws.proofs.Existing.{some_parts}
use Rattle.signature_laws.proofs.Walks.{signatures_exist_lem}
use Rattle.component_laws.specs.Ordered.{Entry, texts_of, numbers_of, AreInOrder}
use Rattle.component_laws.proofs.OrderLemmas.{signs}
use Rattle.outcome_existence_laws.proofs.Sorting.{sort}

-- the signatures of the first i components
record SignedUpTo (parts : List Part) (i : ℕ) : Type 0 where
  entries : List Entry
  each : All (λ (e : Entry). IsSignature (part_at parts e.number).rows e.text) entries
  numbers : numbers_of entries ≡ below i

-- the components in the order of their signatures
pub record InOrder (rows : List Row) : Type 0 where
  pub parts : List Part
  pub are_parts : AreParts rows parts
  pub entries : List Entry
  pub in_order : AreInOrder parts entries

module _ (rows : List Row) (table : IsTable rows) (parts : List Part) (h : AreParts rows parts) where
  signature_at : (i : ℕ) → i < length parts → (text : List ℕ) × IsSignature (part_at parts i).rows text
  signature_at i l =
      let p = part_is rows table parts h i l in
      signatures_exist_lem (part_at parts i).rows (part_is_table rows table (part_at parts i) p) (part_is_connected rows table (part_at parts i) p)

  sign : (i : ℕ) → i ≤ length parts → SignedUpTo parts i
  sign zero l = record { entries = []; each = All-nil (λ (e : Entry). IsSignature (part_at parts e.number).rows e.text); numbers = refl }
  sign (suc i) l =
      let s = sign i (omega arith) in
      let t = signature_at i (omega arith) in
      record {
        entries = s.entries ++ record { text = t.0; number = i } ∷ [];
        each = All-push (λ (e : Entry). IsSignature (part_at parts e.number).rows e.text) s.entries (record { text = t.0; number = i }) s.each t.1;
        numbers = map-append (λ (e : Entry). e.number) s.entries (record { text = t.0; number = i } ∷ []) ∙ ap (λ (ns : List ℕ). ns ++ i ∷ []) s.numbers ∙ below-push i;
      }

  ordered : (entries : List Entry) × AreInOrder parts entries
  ordered =
      let s = sign (length parts) (omega arith) in
      let o = sort s.entries in
      (o.0, record { made = s.entries; are_signed = record { each = s.each; numbers = s.numbers }; same = o.1; sorted = o.2 })

pub in_order : (rows : List Row) → IsTable rows → InOrder rows
in_order rows table = let p = some_parts rows table in let o = ordered rows table p.0 p.1 in record { parts = p.0; are_parts = p.1; entries = o.0; in_order = o.1 }

pub some_component_signature : (rows : List Row) → IsTable rows → (text : List ℕ) × IsComponentSignature rows text
some_component_signature rows table = let o = in_order rows table in
    (component_text (texts_of o.entries), signs o.parts o.entries o.in_order rows (component_text (texts_of o.entries)) o.are_parts refl)
