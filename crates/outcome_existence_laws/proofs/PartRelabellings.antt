-- Two isomorphic tables have a relabelling component by component as their answer.
use Rattle.std.proofs.Common.{◌≡◌, ℕ, ◌<◌, ◌≤◌, ◌⊎◌, inl, inr, List, [], length, slice_index, slice_index_or, subst, sym, ap, refl, ◌∙◌, arith}
use Rattle.std.proofs.lemmas.Bool.{cases_lt}
use Rattle.std.proofs.lemmas.List.FromFn.{length-map-range_with_len}
use Rattle.basic_lemmas.proofs.Members.{contains_at}
use Rattle.table_definitions.specs.Table.{Gluing, Row, IsTable}
use Rattle.table_definitions.specs.Relabelling.{Relabelling, AreIsomorphic}
use Rattle.signature_definitions.specs.Labellings.{IsLeastRelabelling}
use Rattle.signature_laws.specs.Between.{made}
use Rattle.signature_laws.proofs.Standing.{made_stands}
use Rattle.component_definitions.specs.Parts.{Part, AreParts}
use Rattle.component_definitions.specs.ComponentSignature.{component_text}
use Rattle.component_definitions.specs.SameParts.{GoesBy, IsSameParts}
use Rattle.component_laws.proofs.Members.{part_at, numbers_at, StandsAt, member_below}
use Rattle.component_laws.proofs.Matching.{Matches, stand_for, stand_is}
use Rattle.component_laws.proofs.SameParts.{order_apart, order_holds}
use Rattle.component_laws.proofs.Texts.{texts_apart}
use Rattle.component_laws.proofs.Signatures.{ordered_plain, relabelled_same_text}
use Rattle.component_laws.specs.Ordered.{Entry, texts_of, numbers_of, AreInOrder}
use Rattle.component_laws.specs.Drafts.{AreMatched, AreWritten}
use Rattle.component_laws.proofs.OrderLemmas.{entries_long, permutes, number_below}
use Rattle.component_laws.proofs.MatchLemmas.{part_in, is_part, is_table, is_connected, signed, there, relabelled_at, parts_as_many}
use Rattle.component_laws.proofs.DraftLemmas.{is_same_parts}
use Rattle.outcome_existence_laws.proofs.LeastExists.{least_exists}
use Rattle.outcome_existence_laws.proofs.Ordering.{in_order}

same_texts : (first second : List Row) (P Q : List Part) (E F : List Entry) → IsTable first → IsTable second → AreParts first P → AreParts second Q → AreInOrder P E → AreInOrder Q F → AreIsomorphic first second → texts_of E ≡ texts_of F
same_texts first second P Q E F tf ts p q o o' r =
    let a = signed first P E tf p o in
    let b = signed second Q F ts q o' in
    texts_apart (texts_of E) (texts_of F) (ordered_plain first (component_text (texts_of E)) tf a) (ordered_plain second (component_text (texts_of F)) ts b)
    (relabelled_same_text first second (component_text (texts_of E)) (component_text (texts_of F)) tf ts a b r)

module _ (n : ℕ) (P : List Part) (E : List Entry) (Q : List Part) (F : List Entry) (m : AreMatched n P E Q F) where
  -- the least relabelling of the components with index i in the order
  told_at : (i : ℕ) → i < length E → (r : Relabelling) × IsLeastRelabelling (part_in P E i).rows (part_in Q F i).rows r
  told_at i l =
      let k = there n P E Q F m i l in
      least_exists (part_in P E i).rows (part_in Q F i).rows (is_table m.first P E m.first_table m.are_parts m.in_order i l) (is_table m.second Q F m.second_table m.are_others m.others_in_order i k)
      (is_connected m.first P E m.first_table m.are_parts m.in_order i l) (is_connected m.second Q F m.second_table m.are_others m.others_in_order i k) (relabelled_at n P E Q F m i l)

  chosen : (i : ℕ) → (i < length E) ⊎ (length E ≤ i) → Relabelling
  chosen i (inl l) = (told_at i l).0
  chosen i (inr exceeded) = record { images = []; perms = [] }

  chosen_is : (i : ℕ) (c : (i < length E) ⊎ (length E ≤ i)) → i < length E → IsLeastRelabelling (part_in P E i).rows (part_in Q F i).rows (chosen i c)
  unfolding chosen
  chosen_is i (inl l) k = (told_at i l).1
  chosen_is i (inr exceeded) k = absurd (omega arith)

  reported : ℕ → Relabelling
  reported i = chosen i (cases_lt i (length E))

  told_is : (i : ℕ) → i < length E → IsLeastRelabelling (part_in P E i).rows (part_in Q F i).rows (reported i)
  unfolding reported
  told_is i l = chosen_is i (cases_lt i (length E)) l

  -- the index of a component in the order
  place : (a : ℕ) → (a < length P) ⊎ (length P ≤ a) → ℕ
  place a (inl l) = (order_holds (length P) (numbers_of E) (permutes P E m.in_order) a l).0
  place a (inr exceeded) = 0

  place_is : (a : ℕ) (c : (a < length P) ⊎ (length P ≤ a)) → a < length P → (place a c < length P) × (slice_index (numbers_of E) (place a c) ≡ a)
  unfolding place
  place_is a (inl l) k = let w = order_holds (length P) (numbers_of E) (permutes P E m.in_order) a l in (w.1, w.2)
  place_is a (inr exceeded) k = absurd (omega arith)

  at : ℕ → ℕ
  at a = place a (cases_lt a (length P))

  at_is : (a : ℕ) → a < length P → (at a < length P) × (slice_index (numbers_of E) (at a) ≡ a)
  unfolding at
  at_is a l = place_is a (cases_lt a (length P)) l

  in_entries : (i : ℕ) → i < length P → i < length E
  in_entries i l = let e = entries_long P E m.in_order in omega (arith, e, l)

  in_others : (i : ℕ) → i < length P → i < length Q
  in_others i l = let e = parts_as_many n P E Q F m in omega (arith, e, l)

  to : ℕ → ℕ
  to a = slice_index (numbers_of F) (at a)

  least_of : (a : ℕ) → a < length P → IsLeastRelabelling (part_at P a).rows (part_at Q (to a)).rows (reported (at a))
  unfolding to
  least_of a l = let w = at_is a l in
      subst (λ b. IsLeastRelabelling (part_at P b).rows (part_at Q (slice_index (numbers_of F) (at a))).rows (reported (at a))) w.1 (told_is (at a) (in_entries (at a) w.0))

  matches : Matches P Q
  unfolding to
  matches = record {
    to = to;
    in_range = λ a l. number_below Q F m.others_in_order (at a) (there n P E Q F m (at a) (in_entries (at a) (at_is a l).0));
    separate = λ a b la lb e. sym (at_is a la).1 ∙ ap (slice_index (numbers_of E)) (order_apart (length Q) (numbers_of F) (permutes Q F m.others_in_order) (at a) (at b) (in_others (at a) (at_is a la).0) (in_others (at b) (at_is b lb).0) e) ∙ (at_is b lb).1;
    by = λ a. reported (at a);
    relabels = λ a l. (least_of a l).relabels.0;
    carries = λ a l. (least_of a l).relabels.1;
  }

  abbrev occurs : ℕ → Gluing
  occurs t = stand_for m.first m.second P Q m.first_table m.second_table m.are_parts m.are_others matches t

  by : Relabelling
  by = made n occurs

  written : AreWritten P (numbers_of E) Q (numbers_of F) (length E) by
  unfolding by matches to
  written i l = (reported i, told_is i l, goes)
    where
      a : ℕ
      a = slice_index (numbers_of E) i

      la : slice_index (numbers_of E) i < length P
      la = number_below P E m.in_order i l

      same : at (slice_index (numbers_of E) i) ≡ i
      same = let w = at_is (slice_index (numbers_of E) i) la in let e = entries_long P E m.in_order in
          order_apart (length P) (numbers_of E) (permutes P E m.in_order) (at (slice_index (numbers_of E) i)) i w.0 (omega (arith, e, l)) w.1

      goes : GoesBy (made n occurs) (part_in P E i) (part_in Q F i) (reported i)
      goes k lk =
          let t : ℕ = slice_index (part_in P E i).numbers k in
          let inside : slice_index (part_in P E i).numbers k < length m.first = member_below m.first m.first_table (part_in P E i) (is_part m.first P E m.first_table m.are_parts m.in_order i l) (slice_index (part_in P E i).numbers k)
          (contains_at (part_in P E i).numbers k (slice_index (part_in P E i).numbers k) lk refl) in
          let s : StandsAt P (slice_index (part_in P E i).numbers k) = record { i = slice_index (numbers_of E) i; in_parts = la; k = k; in_numbers = lk; is = refl } in
          made_stands n occurs (slice_index (part_in P E i).numbers k) (subst (λ j. slice_index (part_in P E i).numbers k < j) m.size inside)
          ∙ stand_is m.first m.second P Q m.first_table m.second_table m.are_parts m.are_others matches (slice_index (part_in P E i).numbers k) s inside
          ∙ ap (λ j. record { tet = slice_index (numbers_at Q (slice_index (numbers_of F) j)) (slice_index (reported j).images k); perm = slice_index_or (reported j).perms k [] }) same

  long_images : length (made n occurs).images ≡ n
  unfolding made
  long_images = length-map-range_with_len (λ t. (occurs t).tet) 0 n

  long_perms : length (made n occurs).perms ≡ n
  unfolding made
  long_perms = length-map-range_with_len (λ t. (occurs t).perm) 0 n

  pub same_parts_told : (by : Relabelling) × IsSameParts m.first m.second by
  unfolding by
  same_parts_told = (made n occurs, is_same_parts n P E Q F m (made n occurs) long_images long_perms written)

pub some_same_parts : (first second : List Row) → IsTable first → IsTable second → AreIsomorphic first second → (by : Relabelling) × IsSameParts first second by
some_same_parts first second tf ts r =
    let o = in_order first tf in
    let q = in_order second ts in
    same_parts_told (length first) o.parts o.entries q.parts q.entries (record {
      first = first;
      second = second;
      first_table = tf;
      second_table = ts;
      size = refl;
      are_parts = o.are_parts;
      in_order = o.in_order;
      are_others = q.are_parts;
      others_in_order = q.in_order;
      same = same_texts first second o.parts q.parts o.entries q.entries tf ts o.are_parts q.are_parts o.in_order q.in_order r;
    })
