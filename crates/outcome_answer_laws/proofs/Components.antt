-- The components of two tables correspond by isomorphisms if and only if `csame` says `same`.
use Rattle.std.proofs.Common.{◌≡◌, ◌⊎◌, ◌<◌, ◌≤◌, ℕ, List, length, slice_index, IsPermutation, inl, inr, sym, ◌∙◌, ap, subst, arith}
use Rattle.std.proofs.lemmas.Bool.{cases_lt}
use Rattle.table_definitions.specs.Lists.{below}
use Rattle.table_definitions.specs.Table.{Row, IsTable}
use Rattle.table_definitions.specs.Relabelling.{Relabelling, AreIsomorphic}
use Rattle.component_definitions.specs.SameParts.{part_at, IsSameParts}
use Rattle.signature_laws.proofs.Invariance.{relabels_back}
use Rattle.component_laws.proofs.Members.{part_is, part_is_table}
use Rattle.component_laws.proofs.Matching.{IsMatching, matched_tables}
use Rattle.component_laws.proofs.SameParts.{order_long, order_below, order_apart, order_holds, same_parts_carry}
use Rattle.text_document_definitions.specs.Documents.{two_tables_document}
use Rattle.command_definitions.specs.declared.Request.TheVariants.{Csame}
use Rattle.outcome_definitions.specs.Outcomes.{Outcome}
use Rattle.outcome_definitions.specs.Parts.{IsSamePartsAnswer}
use Rattle.outcome_laws.proofs.ReadPairs.{both_are_tables}
use Rattle.outcome_answer_laws.specs.Comparisons.{SaysSame, AreCompared, ComponentsMatch, IsComponentComparison, ComponentsAreCompared}
use Rattle.outcome_answer_laws.proofs.Asked.{means_by}
use Rattle.outcome_answer_laws.proofs.Comparisons.{IsResult, compared_by}

-- the index of a number in an order of the numbers below m
module _ (m : ℕ) (order : List ℕ) (p : IsPermutation order (below m)) where
  place : (a : ℕ) → (a < m) ⊎ (m ≤ a) → ℕ
  place a (inl l) = (order_holds m order p a l).0
  place a (inr exceeded) = 0

  place_is : (a : ℕ) (c : (a < m) ⊎ (m ≤ a)) → a < m → (place a c < m) × (slice_index order (place a c) ≡ a)
  unfolding place
  place_is a (inl l) k = let w = order_holds m order p a l in (w.1, w.2)
  place_is a (inr exceeded) k = absurd (omega arith)

  at_place : ℕ → ℕ
  at_place a = place a (cases_lt a m)

  found : (a : ℕ) → a < m → (at_place a < m) × (slice_index order (at_place a) ≡ a)
  unfolding at_place
  found a l = place_is a (cases_lt a m) l

  found_again : (i : ℕ) → i < m → at_place (slice_index order i) ≡ i
  found_again i l =
      let f = found (slice_index order i) (order_below m order p i l) in
      order_apart m order p (at_place (slice_index order i)) i f.0 l f.1

module _ (first second : List Row) (by : Relabelling) (h : IsSameParts first second by) where
  abbrev count : ℕ
  count = length h.parts

  abbrev permutes : IsPermutation h.order (below count)
  permutes = h.in_order.permutes

  other_permutes : IsPermutation h.other_order (below count)
  other_permutes = subst (λ k. IsPermutation h.other_order (below k)) (sym h.as_many) h.others_in_order.permutes

  goes : ℕ → ℕ
  goes a = slice_index h.other_order (at_place count h.order permutes a)

  comes : ℕ → ℕ
  comes b = slice_index h.order (at_place count h.other_order other_permutes b)

  goes_below : (a : ℕ) → a < count → goes a < count
  unfolding goes
  goes_below a l = order_below count h.other_order other_permutes (at_place count h.order permutes a) (found count h.order permutes a l).0

  comes_below : (b : ℕ) → b < count → comes b < count
  unfolding comes
  comes_below b l = order_below count h.order permutes (at_place count h.other_order other_permutes b) (found count h.other_order other_permutes b l).0

  comes_back : (a : ℕ) → a < count → comes (goes a) ≡ a
  unfolding goes comes
  comes_back a l =
      let f = found count h.order permutes a l in
      ap (slice_index h.order) (found_again count h.other_order other_permutes (at_place count h.order permutes a) f.0) ∙ f.1

  goes_back : (b : ℕ) → b < count → goes (comes b) ≡ b
  unfolding goes comes
  goes_back b l =
      let f = found count h.other_order other_permutes b l in
      ap (slice_index h.other_order) (found_again count h.order permutes (at_place count h.other_order other_permutes b) f.0) ∙ f.1

  relabelled_part : (a : ℕ) → a < count → AreIsomorphic (part_at h.parts a).rows (part_at h.others (goes a)).rows
  unfolding goes
  relabelled_part a l =
      let f = found count h.order permutes a l in
      let e = h.each (at_place count h.order permutes a) (subst (λ n. at_place count h.order permutes a < n) (sym (order_long count h.order permutes)) f.0) in
      subst (λ k. AreIsomorphic (part_at h.parts k).rows (part_at h.others (slice_index h.other_order (at_place count h.order permutes a))).rows) f.1
      (e.0, e.1.relabels.0, e.1.relabels.1)

  same_parts_match : ComponentsMatch first second
  same_parts_match = record {
    parts = h.parts;
    are_parts = h.in_order.are_parts;
    others = h.others;
    are_others = h.others_in_order.are_parts;
    to = goes;
    back = comes;
    to_in_range = λ a l. subst (λ n. goes a < n) h.as_many (goes_below a l);
    back_in_range = λ b l. comes_below b (subst (λ n. b < n) (sym h.as_many) l);
    to_and_back = comes_back;
    back_and_to = λ b l. goes_back b (subst (λ n. b < n) (sym h.as_many) l);
    relabelled = relabelled_part;
  }

module _ (first second : List Row) (tf : IsTable first) (ts : IsTable second) (c : ComponentsMatch first second) where
  there : IsMatching c.parts c.others
  there = record {
    to = c.to;
    in_range = c.to_in_range;
    separate = λ i j li lj e. sym (c.to_and_back i li) ∙ ap c.back e ∙ c.to_and_back j lj;
    relabelled = c.relabelled;
  }

  led_back : (j : ℕ) → j < length c.others → AreIsomorphic (part_at c.others j).rows (part_at c.parts (c.back j)).rows
  led_back j l =
      let part : IsTable (part_at c.parts (c.back j)).rows =
      part_is_table first tf (part_at c.parts (c.back j)) (part_is first tf c.parts c.are_parts (c.back j) (c.back_in_range j l)) in
      subst (λ k. AreIsomorphic (part_at c.others k).rows (part_at c.parts (c.back j)).rows) (c.back_and_to j l)
      (relabels_back (part_at c.parts (c.back j)).rows (part_at c.others (c.to (c.back j))).rows part (c.relabelled (c.back j) (c.back_in_range j l)))

  back_there : IsMatching c.others c.parts
  back_there = record {
    to = c.back;
    in_range = c.back_in_range;
    separate = λ i j li lj e. sym (c.back_and_to i li) ∙ ap c.to e ∙ c.back_and_to j lj;
    relabelled = led_back;
  }

  matching_relabels : AreIsomorphic first second
  matching_relabels = matched_tables first second c.parts c.others tf ts c.are_parts c.are_others there back_there

module _ (pair : List Row × List Row) (o : Outcome) (tf : IsTable pair.0) (ts : IsTable pair.1) where
  parts_told : IsSamePartsAnswer pair o → IsResult pair.0 pair.1 o
  parts_told (inl h) = inl (h.by, (h.same.relabelling, same_parts_carry pair.0 pair.1 h.by tf ts h.same), h.reported)
  parts_told (inr h) = inr h

  match_where_same : IsSamePartsAnswer pair o → AreCompared pair.0 pair.1 o → SaysSame o → ComponentsMatch pair.0 pair.1
  match_where_same (inl h) c s = same_parts_match pair.0 pair.1 h.by h.same
  match_where_same (inr h) c s = absurd (h.0 (c.same.0 s))

  component_comparison : IsSamePartsAnswer pair o → IsComponentComparison pair o
  component_comparison a =
      let c : AreCompared pair.0 pair.1 o = compared_by pair.0 pair.1 o (parts_told a) in
      record { compared = c; components = (match_where_same a c, (λ m. c.same.1 (matching_relabels pair.0 pair.1 tf ts m))) }

pub components_compared : ComponentsAreCompared
components_compared = means_by Csame two_tables_document IsSamePartsAnswer IsComponentComparison (λ bytes o a. a)
    (λ bytes pair o read a. let tables = both_are_tables bytes pair read in component_comparison pair o tables.0 tables.1 a)
