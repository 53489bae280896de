-- What is returned for two tables component by component is an isomorphism from the one to the other.
use Rattle.std.proofs.Common.{◌≡◌, ℕ, ◌<◌, ◌≤◌, ◌⊎◌, inl, inr, List, [], length, IsPermutation, slice_index, subst, sym, ap, ◌∙◌, arith}
use Rattle.std.proofs.lemmas.Bool.{cases_lt, cases_order}
use Rattle.std.proofs.lemmas.List.{get_or_default}
use Rattle.std.proofs.lemmas.List.FromFn.{length-range_with_len}
use Rattle.std.proofs.lemmas.List.Sorted.{IsPermutation-sym, Contains-permutation, length_permutation}
use Rattle.table_definitions.specs.Lists.{below}
use Rattle.table_definitions.specs.Table.{Row, IsTable}
use Rattle.table_definitions.specs.Relabelling.{Relabelling, IsRelabelling, AreIsomorphic, Carries, relabelled_place}
use Rattle.signature_definitions.specs.Labellings.{IsLeastRelabelling}
use Rattle.table_definitions.proofs.Bijections.{below_contains}
use Rattle.table_definitions.proofs.Carried.{permutation_below, permutation_apart}
use Rattle.signature_laws.proofs.Invariance.{relabels_back}
use Rattle.signature_laws.specs.Between.{made}
use Rattle.signature_laws.proofs.Standing.{same_relabelling, made_stands}
use Rattle.component_definitions.specs.SameParts.{GoesBy, IsSameParts}
use Rattle.component_laws.proofs.Members.{part_at, StandsAt, part_is, part_is_table, stands_at}
use Rattle.component_laws.proofs.Matching.{Matches, stand_for, stand_is, matched_fits, matched_carries, IsMatching, matches as matches_of}

module _ (m : ℕ) (order : List ℕ) (p : IsPermutation order (below m)) where
  pub order_long : length order ≡ m
  order_long = sym (length_permutation order (below m) p) ∙ length-range_with_len 0 m

  pub order_below : (i : ℕ) → i < m → slice_index order i < m
  order_below i l = permutation_below m order p i (subst (λ n. i < n) (sym order_long) l)

  pub order_apart : (i j : ℕ) → i < m → j < m → slice_index order i ≡ slice_index order j → i ≡ j
  order_apart i j li lj e = elim (cases_order i j) [
    | inl same ↦ same
    | inr (inl less) ↦ absurd (permutation_apart m order p i j less (subst (λ n. j < n) (sym order_long) lj) e)
    | inr (inr more) ↦ absurd (permutation_apart m order p j i more (subst (λ n. i < n) (sym order_long) li) (sym e))
  ]

  pub order_holds : (a : ℕ) → a < m → (i : ℕ) × (i < m) × (slice_index order i ≡ a)
  order_holds a l = let c = Contains-permutation (below m) order a (IsPermutation-sym order (below m) p) (below_contains m a l) in
      (c.0, subst (λ n. c.0 < n) order_long c.1, get_or_default order c.0 0 a c.1 ∙ c.2)

module _ (first second : List Row) (by : Relabelling) (tf : IsTable first) (ts : IsTable second) (h : IsSameParts first second by) where
  abbrev count : ℕ
  count = length h.parts

  pub count_second : length h.others ≡ count
  count_second = sym h.as_many

  -- the index of component a in the order, and the component at that index of the other table's order
  place : (a : ℕ) → (a < count) ⊎ (count ≤ a) → ℕ
  place a (inl l) = (order_holds count h.order h.in_order.permutes a l).0
  place a (inr exceeded) = 0

  place_is : (a : ℕ) (c : (a < count) ⊎ (count ≤ a)) → a < count → (place a c < count) × (slice_index h.order (place a c) ≡ a)
  unfolding place
  place_is a (inl l) m = let w = order_holds count h.order h.in_order.permutes a l in (w.1, w.2)
  place_is a (inr exceeded) m = absurd (omega arith)

  other_permutes : IsPermutation h.other_order (below count)
  other_permutes = subst (λ k. IsPermutation h.other_order (below k)) count_second h.others_in_order.permutes

  at_place : ℕ → ℕ
  at_place a = place a (cases_lt a count)

  at_place_is : (a : ℕ) → a < count → (at_place a < count) × (slice_index h.order (at_place a) ≡ a)
  unfolding at_place
  at_place_is a l = place_is a (cases_lt a count) l

  other_of : ℕ → ℕ
  other_of a = slice_index h.other_order (at_place a)

  reported : (a : ℕ) → a < count → (r : Relabelling) × IsLeastRelabelling (part_at h.parts a).rows (part_at h.others (other_of a)).rows r × GoesBy by (part_at h.parts a) (part_at h.others (other_of a)) r
  unfolding other_of
  reported a l = let w = at_place_is a l in
      subst (λ b. (r : Relabelling) × IsLeastRelabelling (part_at h.parts b).rows (part_at h.others (slice_index h.other_order (at_place a))).rows r × GoesBy by (part_at h.parts b) (part_at h.others (slice_index h.other_order (at_place a))) r)
      w.1 (h.each (at_place a) (subst (λ n. at_place a < n) (sym (order_long count h.order h.in_order.permutes)) w.0))

  taken : (a : ℕ) → (a < count) ⊎ (count ≤ a) → Relabelling
  taken a (inl l) = (reported a l).0
  taken a (inr exceeded) = record { images = []; perms = [] }

  taken_is : (a : ℕ) (c : (a < count) ⊎ (count ≤ a)) → a < count →
      IsLeastRelabelling (part_at h.parts a).rows (part_at h.others (other_of a)).rows (taken a c) × GoesBy by (part_at h.parts a) (part_at h.others (other_of a)) (taken a c)
  unfolding taken
  taken_is a (inl l) m = ((reported a l).1, (reported a l).2)
  taken_is a (inr exceeded) m = absurd (omega arith)

  matches : Matches h.parts h.others
  unfolding other_of
  matches = record {
    to = other_of;
    in_range = λ a l. subst (λ n. other_of a < n) h.as_many (order_below count h.other_order other_permutes (at_place a) (at_place_is a l).0);
    separate = λ a b la lb e. sym (at_place_is a la).1 ∙ ap (slice_index h.order) (order_apart count h.other_order other_permutes (at_place a) (at_place b) (at_place_is a la).0 (at_place_is b lb).0 e) ∙ (at_place_is b lb).1;
    by = λ a. taken a (cases_lt a count);
    relabels = λ a l. (taken_is a (cases_lt a count) l).0.relabels.0;
    carries = λ a l. (taken_is a (cases_lt a count) l).0.relabels.1;
  }

  stands_same : (t : ℕ) → t < length first → relabelled_place by t ≡ stand_for first second h.parts h.others tf ts h.in_order.are_parts h.others_in_order.are_parts matches t
  unfolding matches
  stands_same t l = ap (relabelled_place by) (sym s.is) ∙ (taken_is s.i (cases_lt s.i count) s.in_parts).1 s.k s.in_numbers
      ∙ sym (stand_is first second h.parts h.others tf ts h.in_order.are_parts h.others_in_order.are_parts matches t s l)
    where
      s : StandsAt h.parts t
      s = stands_at first tf h.parts h.in_order.are_parts t l

  -- ---- the inverse

  back_place : (b : ℕ) → (b < count) ⊎ (count ≤ b) → ℕ
  back_place b (inl l) = (order_holds count h.other_order other_permutes b l).0
  back_place b (inr exceeded) = 0

  back_place_is : (b : ℕ) (c : (b < count) ⊎ (count ≤ b)) → b < count → (back_place b c < count) × (slice_index h.other_order (back_place b c) ≡ b)
  unfolding back_place
  back_place_is b (inl l) m = let w = order_holds count h.other_order other_permutes b l in (w.1, w.2)
  back_place_is b (inr exceeded) m = absurd (omega arith)

  at_back : ℕ → ℕ
  at_back b = back_place b (cases_lt b count)

  at_back_is : (b : ℕ) → b < count → (at_back b < count) × (slice_index h.other_order (at_back b) ≡ b)
  unfolding at_back
  at_back_is b l = back_place_is b (cases_lt b count) l

  part_of : ℕ → ℕ
  part_of b = slice_index h.order (at_back b)

  less : (b : ℕ) → b < length h.others → b < count
  less b l = subst (λ n. b < n) count_second l

  part_table : (a : ℕ) → a < count → IsTable (part_at h.parts a).rows
  part_table a l = part_is_table first tf (part_at h.parts a) (part_is first tf h.parts h.in_order.are_parts a l)

  told_back : (b : ℕ) → b < count → AreIsomorphic (part_at h.others b).rows (part_at h.parts (part_of b)).rows
  unfolding part_of
  told_back b l = let w = at_back_is b l in let i = at_back b in
      let r = h.each i (subst (λ n. i < n) (sym (order_long count h.order h.in_order.permutes)) w.0) in
      subst (λ c. AreIsomorphic (part_at h.others c).rows (part_at h.parts (slice_index h.order i)).rows) w.1
      (relabels_back (part_at h.parts (slice_index h.order i)).rows (part_at h.others (slice_index h.other_order i)).rows (part_table (slice_index h.order i) (order_below count h.order h.in_order.permutes i w.0))
      (r.0, r.1.relabels.0, r.1.relabels.1))

  back_matching : IsMatching h.others h.parts
  unfolding part_of
  back_matching = record {
    to = part_of;
    in_range = λ b l. order_below count h.order h.in_order.permutes (at_back b) (at_back_is b (less b l)).0;
    separate = λ a b la lb e. sym (at_back_is a (less a la)).1 ∙ ap (slice_index h.other_order) (order_apart count h.order h.in_order.permutes (at_back a) (at_back b) (at_back_is a (less a la)).0 (at_back_is b (less b lb)).0 e) ∙ (at_back_is b (less b lb)).1;
    relabelled = λ b l. told_back b (less b l);
  }

  as_long : length second ≤ length first
  as_long = matched_fits second first h.others h.parts ts tf h.others_in_order.are_parts h.in_order.are_parts (matches_of h.others h.parts back_matching)

  pub same_parts_carry : Carries by first second
  same_parts_carry = subst (λ r. Carries r first second) (sym same) c.1
    where
      c : IsRelabelling (length first) (made (length first) (stand_for first second h.parts h.others tf ts h.in_order.are_parts h.others_in_order.are_parts matches))
          × Carries (made (length first) (stand_for first second h.parts h.others tf ts h.in_order.are_parts h.others_in_order.are_parts matches)) first second
      c = matched_carries first second h.parts h.others tf ts h.in_order.are_parts h.others_in_order.are_parts matches as_long

      same : by ≡ made (length first) (stand_for first second h.parts h.others tf ts h.in_order.are_parts h.others_in_order.are_parts matches)
      same = same_relabelling (length first) by (made (length first) (stand_for first second h.parts h.others tf ts h.in_order.are_parts h.others_in_order.are_parts matches)) h.relabelling c.0
          (λ t l. stands_same t l ∙ sym (made_stands (length first) (stand_for first second h.parts h.others tf ts h.in_order.are_parts h.others_in_order.are_parts matches) t l))
