-- What is written component by component is a relabelling.
use Rattle.std.proofs.Common.{◌≡◌, ℕ, ◌<◌, ◌≤◌, ◌⊎◌, inl, inr, List, [], length, map, slice_index, slice_index_or, subst, sym, ap, ap₂, refl, ◌∙◌, arith}
use Rattle.std.proofs.lemmas.Bool.{cases_lt}
use Rattle.std.proofs.lemmas.List.{ext_get_or}
use Rattle.std.proofs.lemmas.List.FromFn.{get_or-map-range_with_len, length-map-range_with_len}
use Rattle.table_definitions.specs.Lists.{below}
use Rattle.table_definitions.specs.Permutation.{IsPermutationOfFour}
use Rattle.table_definitions.specs.Table.{Gluing}
use Rattle.table_definitions.specs.Relabelling.{Relabelling, IsRelabelling, relabelled_place}
use Rattle.table_definitions.proofs.Carried.{image_in_range, images_apart, perm_permutes}
use Rattle.signature_definitions.specs.Labellings.{IsLeastRelabelling}
use Rattle.signature_laws.specs.Between.{made}
use Rattle.signature_laws.proofs.Standing.{made_relabelling}
use Rattle.component_definitions.specs.Parts.{Part}
use Rattle.component_definitions.specs.SameParts.{GoesBy, IsSameParts}
use Rattle.component_laws.proofs.Members.{numbers_at, StandsAt, stands_at, one_place, member_of, member_below, length-part}
use Rattle.component_laws.proofs.SameParts.{order_apart, order_holds}
use Rattle.component_laws.specs.Ordered.{Entry, numbers_of}
use Rattle.component_laws.specs.Drafts.{AreMatched, AreWritten}
use Rattle.component_laws.proofs.OrderLemmas.{entries_long, permutes, number_below, numbers_long, parts_in_order}
use Rattle.component_laws.proofs.MatchLemmas.{part_in, is_part, there, second_size, parts_as_many}

module _ (n : ℕ) (P : List Part) (E : List Entry) (Q : List Part) (F : List Entry) (m : AreMatched n P E Q F) where
  module _ (by : Relabelling) (images : length by.images ≡ n) (perms : length by.perms ≡ n) (w : AreWritten P (numbers_of E) Q (numbers_of F) (length E) by) where
    -- the relabelling of the component at index i of the order
    chosen : (i : ℕ) → (i < length E) ⊎ (length E ≤ i) → Relabelling
    chosen i (inl l) = (w i l).0
    chosen i (inr exceeded) = record { images = []; perms = [] }

    chosen_is : (i : ℕ) (c : (i < length E) ⊎ (length E ≤ i)) → i < length E → IsLeastRelabelling (part_in P E i).rows (part_in Q F i).rows (chosen i c) × GoesBy by (part_in P E i) (part_in Q F i) (chosen i c)
    unfolding chosen
    chosen_is i (inl l) k = ((w i l).1, (w i l).2)
    chosen_is i (inr exceeded) k = absurd (omega arith)

    by_at : ℕ → Relabelling
    by_at i = chosen i (cases_lt i (length E))

    by_at_is : (i : ℕ) → i < length E → IsLeastRelabelling (part_in P E i).rows (part_in Q F i).rows (by_at i) × GoesBy by (part_in P E i) (part_in Q F i) (by_at i)
    unfolding by_at
    by_at_is i l = chosen_is i (cases_lt i (length E)) l

    -- the index of a tetrahedron's component in the order, and the tetrahedron's index in the component
    record Goes (t : ℕ) : Type 0 where
      i : ℕ
      in_order : i < length E
      k : ℕ
      in_numbers : k < length (part_in P E i).numbers
      is : slice_index (part_in P E i).numbers k ≡ t

    goes : (t : ℕ) → t < n → Goes t
    goes t l =
        let s = stands_at m.first m.first_table P m.are_parts t (omega (arith, m.size)) in
        let a = order_holds (length P) (numbers_of E) (permutes P E m.in_order) s.i s.in_parts in
        let back : s.i ≡ slice_index (numbers_of E) a.0 = sym a.2 in
        record {
          i = a.0;
          in_order = omega (arith, a.1, entries_long P E m.in_order);
          k = s.k;
          in_numbers = subst (λ i. s.k < length (numbers_at P i)) back s.in_numbers;
          is = subst (λ i. slice_index (numbers_at P i) s.k ≡ t) back s.is;
        }

    abbrev stand : ℕ → ℕ → Gluing
    stand i k = record { tet = slice_index (part_in Q F i).numbers (slice_index (by_at i).images k); perm = slice_index_or (by_at i).perms k [] }

    occurs : (t : ℕ) (g : Goes t) → relabelled_place by t ≡ stand g.i g.k
    occurs t g = ap (relabelled_place by) (sym g.is) ∙ (by_at_is g.i g.in_order).1 g.k g.in_numbers

    row_below : (i k : ℕ) → i < length E → k < length (part_in P E i).numbers → k < length (part_in P E i).rows
    row_below i k l lk = subst (λ j. k < j) (sym (length-part m.first m.first_table (part_in P E i) (is_part m.first P E m.first_table m.are_parts m.in_order i l))) lk

    image_below : (i k : ℕ) → i < length E → k < length (part_in P E i).numbers → slice_index (by_at i).images k < length (part_in Q F i).numbers
    image_below i k l lk =
        let r = by_at_is i l in
        let e : length (part_in Q F i).rows ≡ length (part_in P E i).rows = r.0.relabels.1.same_length in
        let q : length (part_in Q F i).rows ≡ length (part_in Q F i).numbers = length-part m.second m.second_table (part_in Q F i) (is_part m.second Q F m.second_table m.are_others m.others_in_order i (there n P E Q F m i l)) in
        subst (λ j. slice_index (by_at i).images k < j) (sym e ∙ q) (image_in_range (length (part_in P E i).rows) (by_at i) r.0.relabels.0 k (row_below i k l lk))

    stands_there : (i k : ℕ) → i < length E → k < length (part_in P E i).numbers → StandsAt Q (stand i k).tet
    stands_there i k l lk = record { i = slice_index (numbers_of F) i; in_parts = number_below Q F m.others_in_order i (there n P E Q F m i l); k = slice_index (by_at i).images k; in_numbers = image_below i k l lk; is = refl }

    in_range : (t : ℕ) → t < n → (relabelled_place by t).tet < n
    unfolding stands_there
    in_range t l =
        let g = goes t l in
        let b : (stand g.i g.k).tet < length m.second = member_below m.second m.second_table (part_in Q F g.i) (is_part m.second Q F m.second_table m.are_others m.others_in_order g.i (there n P E Q F m g.i g.in_order)) (stand g.i g.k).tet
        (member_of m.second m.second_table Q m.are_others (stand g.i g.k).tet (stands_there g.i g.k g.in_order g.in_numbers)) in
        subst (λ j. (relabelled_place by t).tet < j) (second_size n P E Q F m) (subst (λ (x : Gluing). x.tet < length m.second) (sym (occurs t g)) b)

    -- two tetrahedra of the component at one index of the order
    same_place : (i j k l : ℕ) → i ≡ j → i < length E → k < length (part_in P E i).numbers → l < length (part_in P E j).numbers → slice_index (by_at i).images k ≡ slice_index (by_at j).images l → k ≡ l
    same_place i j k l e li lk ll same = images_apart (length (part_in P E i).rows) (by_at i) (by_at_is i li).0.relabels.0 k l (row_below i k li lk)
        (row_below i l li (subst (λ a. l < length (part_in P E a).numbers) (sym e) ll)) (same ∙ ap (λ a. slice_index (by_at a).images l) (sym e))

    apart_from : (t u : ℕ) (g : Goes t) (h : Goes u) → (stand g.i g.k).tet ≡ (stand h.i h.k).tet → t ≡ u
    unfolding stands_there
    apart_from t u g h e = sym g.is ∙ ap₂ (λ i k. slice_index (part_in P E i).numbers k) orders places ∙ h.is
      where
        other : StandsAt Q (stand g.i g.k).tet
        other = subst (StandsAt Q) (sym e) (stands_there h.i h.k h.in_order h.in_numbers)

        moved : (x y : ℕ) (f : x ≡ y) (s : StandsAt Q y) → ((subst (StandsAt Q) (sym f) s).i ≡ s.i) × ((subst (StandsAt Q) (sym f) s).k ≡ s.k)
        moved x y f s = (refl, refl)

        both : (slice_index (numbers_of F) g.i ≡ slice_index (numbers_of F) h.i) × (slice_index (by_at g.i).images g.k ≡ slice_index (by_at h.i).images h.k)
        both = let o = one_place m.second m.second_table Q m.are_others (stand g.i g.k).tet (stands_there g.i g.k g.in_order g.in_numbers) other in
            let v = moved (stand g.i g.k).tet (stand h.i h.k).tet e (stands_there h.i h.k h.in_order h.in_numbers) in (o.0 ∙ v.0, o.1 ∙ v.1)

        orders : g.i ≡ h.i
        orders = let long = entries_long P E m.in_order in let wide = parts_as_many n P E Q F m in let lg = g.in_order in let lh = h.in_order in
            order_apart (length Q) (numbers_of F) (permutes Q F m.others_in_order) g.i h.i (omega (arith, long, wide, lg)) (omega (arith, long, wide, lh)) both.0

        places : g.k ≡ h.k
        places = same_place g.i h.i g.k h.k orders g.in_order g.in_numbers h.in_numbers both.1

    separate : (t u : ℕ) → t < n → u < n → (relabelled_place by t).tet ≡ (relabelled_place by u).tet → t ≡ u
    separate t u l k e = let g = goes t l in let h = goes u k in
        apart_from t u g h (ap (λ (x : Gluing). x.tet) (sym (occurs t g)) ∙ e ∙ ap (λ (x : Gluing). x.tet) (occurs u h))

    permuted : (t : ℕ) → t < n → IsPermutationOfFour (relabelled_place by t).perm
    permuted t l = let g = goes t l in subst (λ (x : Gluing). IsPermutationOfFour x.perm) (sym (occurs t g))
        (perm_permutes (length (part_in P E g.i).rows) (by_at g.i) (by_at_is g.i g.in_order).0.relabels.0 g.k (row_below g.i g.k g.in_order g.in_numbers))

    made_same : made n (relabelled_place by) ≡ by
    unfolding made
    made_same = λ j. record { images = same_images j; perms = same_perms j }
      where
        same_images : map (λ t. slice_index by.images t) (below n) ≡ by.images
        same_images = let long = length-map-range_with_len (λ t. slice_index by.images t) 0 n in
            ext_get_or 0 (map (λ t. slice_index by.images t) (below n)) by.images (long ∙ sym images)
            (λ t l. get_or-map-range_with_len (λ t. slice_index by.images t) 0 n t t 0 (omega (arith, long)) (omega arith))

        same_perms : map (λ t. slice_index_or by.perms t []) (below n) ≡ by.perms
        same_perms = let long = length-map-range_with_len (λ t. slice_index_or by.perms t []) 0 n in
            ext_get_or [] (map (λ t. slice_index_or by.perms t []) (below n)) by.perms (long ∙ sym perms)
            (λ t l. get_or-map-range_with_len (λ t. slice_index_or by.perms t []) 0 n t t [] (omega (arith, long)) (omega arith))

    pub is_relabelling : IsRelabelling n by
    is_relabelling = subst (IsRelabelling n) made_same (made_relabelling n (relabelled_place by) (record { in_range = in_range; separate = separate; permutes = permuted }))

    pub is_same_parts : IsSameParts m.first m.second by
    is_same_parts = record {
      relabelling = subst (λ k. IsRelabelling k by) (sym m.size) is_relabelling;
      parts = P;
      order = numbers_of E;
      in_order = parts_in_order P E m.in_order m.first m.are_parts;
      others = Q;
      other_order = numbers_of F;
      others_in_order = parts_in_order Q F m.others_in_order m.second m.are_others;
      as_many = parts_as_many n P E Q F m;
      each = λ i l. w i (omega (arith, numbers_long P E m.in_order));
    }
