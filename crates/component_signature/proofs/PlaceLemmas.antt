-- The component at an index of the order is written, and those before it remain written.
use Rattle.std.proofs.Common.{◌≡◌, ℕ, zero, suc, ◌<◌, ◌≤◌, ◌+◌, inl, inr, List, [], ◌∷◌, length, All, Contains, slice_index, slice_index_or, get_or, subst, sym, ap, refl, ◌∙◌, arith}
use Rattle.std.proofs.lemmas.Bool.{cases_order}
use Rattle.std.proofs.lemmas.List.{get_or_default, length-map}
use Rattle.basic_lemmas.proofs.Members.{contains_at}
use Rattle.table_definitions.specs.Table.{Row, IsTable}
use Rattle.table_definitions.specs.Relabelling.{Relabelling, relabelled_place}
use Rattle.table_definitions.proofs.Carried.{length-images, image_in_range, permutation_apart}
use Rattle.signature_definitions.specs.Labellings.{IsLeastRelabelling}
use Rattle.component_definitions.specs.Parts.{Part, IsPart}
use Rattle.component_definitions.specs.SameParts.{GoesBy}
use Rattle.component_laws.proofs.Members.{part_at, no_part, member_below, length-part, part_is_table, one_part}
use Rattle.component_signature.specs.declared.order.PartSignature.{PartSignature}
use Rattle.component_laws.specs.Ordered.{Entry, numbers_of, AreInOrder}
use Rattle.component_signature.specs.Entries.{entries_of}
use Rattle.component_laws.specs.Drafts.{AreMatched, AreWritten}
use Rattle.component_laws.proofs.OrderLemmas.{permutes, number_below, numbers_long}
use Rattle.component_laws.proofs.MatchLemmas.{part_in, there}

-- the component at an index of the order

pub entries_count : (S : List PartSignature) → length (entries_of S) ≡ length S
entries_count S = length-map S _

pub in_entries : (S : List PartSignature) (i : ℕ) → i < length S → i < length (entries_of S)
in_entries S i l = let e = entries_count S in omega (arith, e, l)

pub in_others : (n : ℕ) (P : List Part) (S : List PartSignature) (Q : List Part) (T : List PartSignature) → AreMatched n P (entries_of S) Q (entries_of T) → (i : ℕ) → i < length S → i < length T
in_others n P S Q T m i l = let e = entries_count T in let t = there n P (entries_of S) Q (entries_of T) m i (in_entries S i l) in omega (arith, e, t)

number_here : (S : List PartSignature) (i : ℕ) (s : PartSignature) → i < length S → s ≡ get_or S i s → slice_index (numbers_of (entries_of S)) i ≡ s.part
number_here [] i s l is = absurd (omega arith)
number_here (x ∷ S) zero s l is = ap (λ (r : PartSignature). r.part) (sym is)
number_here (x ∷ S) (suc i) s l is = number_here S i s (omega arith) is

module _ (P : List Part) (S : List PartSignature) (o : AreInOrder P (entries_of S)) (i : ℕ) (s : PartSignature) (l : i < length S) (is : s ≡ get_or S i s) where
  pub number_in : s.part < length P
  number_in = subst (λ n. n < length P) (number_here S i s l is) (number_below P (entries_of S) o i (omega (arith, l, entries_count S)))

  pub part_here : (p : Part) → p ≡ get_or P s.part p → p ≡ part_in P (entries_of S) i
  part_here p e = e ∙ sym (get_or_default P s.part no_part p number_in) ∙ ap (part_at P) (sym (number_here S i s l is))

-- ---- what a component has to satisfy, and what is returned for two of them

module _ (rows : List Row) (table : IsTable rows) (part : Part) (h : IsPart rows part) where
  pub tets_below : (n : ℕ) → length rows ≡ n → All (λ t. t < n) part.numbers
  tets_below n size k d l = subst (λ m. slice_index_or part.numbers k d < m) size (member_below rows table part h (slice_index_or part.numbers k d) (k, l, sym (get_or_default part.numbers k d (slice_index_or part.numbers k d) l)))

  pub bounded_tets : length part.numbers ≤ 1000
  bounded_tets = let f = (part_is_table rows table part h).limited in let e = length-part rows table part h in omega (arith, f, e)

  pub one_image_each : (second : List Row) (by : Relabelling) → IsLeastRelabelling part.rows second by → length by.images ≡ length part.numbers
  one_image_each second by least = length-images (length part.rows) by least.relabels.0 ∙ length-part rows table part h

  pub images_there : (second : List Row) (ts : IsTable second) (other : Part) (q : IsPart second other) (by : Relabelling) → IsLeastRelabelling part.rows other.rows by → (k : ℕ) → k < length part.numbers → slice_index by.images k < length other.numbers
  images_there second ts other q by least k l =
      let e : length other.rows ≡ length part.rows = least.relabels.1.same_length in
      subst (λ n. slice_index by.images k < n) (sym e ∙ length-part second ts other q)
      (image_in_range (length part.rows) by least.relabels.0 k (subst (λ n. k < n) (sym (length-part rows table part h)) l))

-- ---- one more component is written

module _ (n : ℕ) (P : List Part) (E : List Entry) (Q : List Part) (F : List Entry) (m : AreMatched n P E Q F) where
  separate : (i k : ℕ) → k < i → i < length E → (t : ℕ) → Contains (part_in P E k).numbers t → Contains (part_in P E i).numbers t → ⊥
  separate i k less l t a b = permutation_apart (length P) (numbers_of E) (permutes P E m.in_order) k i less (omega (arith, l, numbers_long P E m.in_order))
      (one_part m.first m.first_table P m.are_parts (slice_index (numbers_of E) k) (slice_index (numbers_of E) i) t (number_below P E m.in_order k (omega arith)) (number_below P E m.in_order i l) a b)

  pub written_more : (i : ℕ) (old new by : Relabelling) → i < length E → IsLeastRelabelling (part_in P E i).rows (part_in Q F i).rows by → GoesBy new (part_in P E i) (part_in Q F i) by
      → ((t : ℕ) → (Contains (part_in P E i).numbers t → ⊥) → relabelled_place new t ≡ relabelled_place old t) → AreWritten P (numbers_of E) Q (numbers_of F) i old → AreWritten P (numbers_of E) Q (numbers_of F) (i + 1) new
  written_more i old new by l least goes others w k lk = elim (cases_order k i) [
    | inl same ↦ subst (λ j. (r : Relabelling) × IsLeastRelabelling (part_in P E j).rows (part_in Q F j).rows r × GoesBy new (part_in P E j) (part_in Q F j) r) (sym same) (by, least, goes)
    | inr (inl less) ↦ let v = w k less in
        (v.0, v.1, λ j lj. others (slice_index (part_in P E k).numbers j) (λ c. separate i k less l (slice_index (part_in P E k).numbers j) (contains_at (part_in P E k).numbers j (slice_index (part_in P E k).numbers j) lj refl) c) ∙ v.2 j lj)
    | inr (inr exceeded) ↦ absurd (omega arith)
  ]
