-- Components at the same index of two orders have the same signature, so they are isomorphic.
use Rattle.std.proofs.Common.{◌≡◌, ℕ, ◌<◌, ◌≤◌, List, [], length, slice_index, slice_index_or, IsPermutation, subst, sym, ap, refl, ◌∙◌, arith}
use Rattle.std.proofs.lemmas.List.{length-map}
use Rattle.std.proofs.lemmas.List.Sorted.{IsPermutation-sym, IsPermutation-trans}
use Rattle.table_definitions.specs.Table.{Row, IsTable}
use Rattle.table_definitions.specs.Places.{IsConnected}
use Rattle.table_definitions.specs.Relabelling.{AreIsomorphic}
use Rattle.signature_definitions.specs.Spelling.{IsSignature}
use Rattle.signature_laws.proofs.Uniqueness.{tells_tables}
use Rattle.component_definitions.specs.Parts.{Part, IsPart, AreParts}
use Rattle.component_definitions.specs.ComponentSignature.{component_text, IsComponentSignature}
use Rattle.component_laws.proofs.Members.{part_at, part_is, part_is_table}
use Rattle.component_laws.proofs.Alone.{part_is_connected}
use Rattle.component_laws.proofs.Matching.{matches, matched_fits}
use Rattle.component_laws.proofs.Permuted.{taken_from}
use Rattle.component_laws.proofs.Texts.{texts_apart}
use Rattle.component_laws.proofs.Signatures.{ordered_plain, matching_from, relabelled_same_text}
use Rattle.component_laws.specs.Ordered.{Entry, texts_of, numbers_of, AreInOrder}
use Rattle.component_laws.specs.Drafts.{AreMatched}
use Rattle.component_laws.proofs.OrderLemmas.{entries_long, each, same_texts, signs, number_below, text_at_map, number_at_map}

abbrev pub part_in : List Part → List Entry → ℕ → Part
part_in parts entries i = part_at parts (slice_index (numbers_of entries) i)

module _ (rows : List Row) (parts : List Part) (entries : List Entry) (table : IsTable rows) (h : AreParts rows parts) (o : AreInOrder parts entries) where
  pub is_part : (i : ℕ) → i < length entries → IsPart rows (part_in parts entries i)
  is_part i l = part_is rows table parts h (slice_index (numbers_of entries) i) (number_below parts entries o i l)

  pub is_table : (i : ℕ) → i < length entries → IsTable (part_in parts entries i).rows
  is_table i l = part_is_table rows table (part_in parts entries i) (is_part i l)

  pub is_connected : (i : ℕ) → i < length entries → IsConnected (part_in parts entries i).rows
  is_connected i l = part_is_connected rows table (part_in parts entries i) (is_part i l)

  pub is_signature : (i : ℕ) → i < length entries → IsSignature (part_in parts entries i).rows (slice_index_or (texts_of entries) i [])
  is_signature i l = subst (λ n. IsSignature (part_at parts n).rows (slice_index_or (texts_of entries) i [])) (sym (number_at_map parts entries o entries i))
      (subst (IsSignature (part_at parts (slice_index_or entries i (record { text = []; number = 0 })).number).rows) (sym (text_at_map parts entries o entries i)) (each parts entries o i (record { text = []; number = 0 }) l))

  abbrev pub signed : IsComponentSignature rows (component_text (texts_of entries))
  signed = signs parts entries o rows (component_text (texts_of entries)) h refl

-- if the signatures differ, the tables are not isomorphic
pub differ : (first second : List Row) (P Q : List Part) (E F : List Entry) → IsTable first → IsTable second → AreParts first P → AreParts second Q → AreInOrder P E → AreInOrder Q F
    → (texts_of E ≡ texts_of F → ⊥) → AreIsomorphic first second → ⊥
differ first second P Q E F tf ts p q o o' other r =
    let a = signed first P E tf p o in
    let b = signed second Q F ts q o' in
    other (texts_apart (texts_of E) (texts_of F) (ordered_plain first (component_text (texts_of E)) tf a) (ordered_plain second (component_text (texts_of F)) ts b)
    (relabelled_same_text first second (component_text (texts_of E)) (component_text (texts_of F)) tf ts a b r))

module _ (n : ℕ) (P : List Part) (E : List Entry) (Q : List Part) (F : List Entry) (m : AreMatched n P E Q F) where
  pub as_many : length F ≡ length E
  as_many = sym (length-map F (λ (e : Entry). e.text)) ∙ ap length (sym m.same) ∙ length-map E (λ (e : Entry). e.text)

  pub there : (i : ℕ) → i < length E → i < length F
  there i l = omega (arith, as_many)

  pub relabelled_at : (i : ℕ) → i < length E → AreIsomorphic (part_in P E i).rows (part_in Q F i).rows
  relabelled_at i l = (tells_tables (part_in P E i).rows (part_in Q F i).rows (slice_index_or (texts_of E) i []) (slice_index_or (texts_of F) i [])
      (is_table m.first P E m.first_table m.are_parts m.in_order i l) (is_table m.second Q F m.second_table m.are_others m.others_in_order i (there i l))
      (is_signature m.first P E m.first_table m.are_parts m.in_order i l) (is_signature m.second Q F m.second_table m.are_others m.others_in_order i (there i l))).0
      (ap (λ (ts : List (List ℕ)). slice_index_or ts i []) m.same)

  abbrev a : IsComponentSignature m.first (component_text (texts_of E))
  a = signed m.first P E m.first_table m.are_parts m.in_order

  abbrev b : IsComponentSignature m.second (component_text (texts_of F))
  b = signed m.second Q F m.second_table m.are_others m.others_in_order

  signatures_same : IsPermutation (texts_of m.in_order.made) (texts_of m.others_in_order.made)
  signatures_same = IsPermutation-trans (texts_of m.in_order.made) (texts_of F) (texts_of m.others_in_order.made)
      (subst (IsPermutation (texts_of m.in_order.made)) m.same (same_texts P E m.in_order))
      (IsPermutation-sym (texts_of m.others_in_order.made) (texts_of F) (same_texts Q F m.others_in_order))

  fits_first : length m.second ≤ length m.first
  fits_first = matched_fits m.second m.first Q P m.second_table m.first_table m.are_others m.are_parts
      (matches Q P (matching_from m.second m.first (component_text (texts_of F)) (component_text (texts_of E)) m.second_table m.first_table b a
      (taken_from (texts_of m.in_order.made) (texts_of m.others_in_order.made) signatures_same)))

  fits_second : length m.first ≤ length m.second
  fits_second = matched_fits m.first m.second P Q m.first_table m.second_table m.are_parts m.are_others
      (matches P Q (matching_from m.first m.second (component_text (texts_of E)) (component_text (texts_of F)) m.first_table m.second_table a b
      (taken_from (texts_of m.others_in_order.made) (texts_of m.in_order.made) (IsPermutation-sym (texts_of m.in_order.made) (texts_of m.others_in_order.made) signatures_same))))

  pub second_size : length m.second ≡ n
  second_size = let f = fits_first in let s = fits_second in let e = m.size in omega (arith, f, s, e)

  pub parts_as_many : length P ≡ length Q
  parts_as_many = sym (entries_long P E m.in_order) ∙ sym as_many ∙ entries_long Q F m.others_in_order
