-- The points of a vertex link are its vertices, and one more for each invalid edge: its two directions are one class.
use Rattle.std.proofs.Common.{◌≡◌, ◌≢◌, ℕ, ◌+◌, ◌*◌, ◌/◌, ◌%◌, ◌<◌, Bool, true, false, List, length, ◌⊎◌, inl, inr, refl, sym, ap, ◌∙◌, subst, subst₂, arith}
use Rattle.std.specs.Prelude.{◌==◌, ◌&&◌, ◌↔◌, filter, sum_by, slice_index}
use Rattle.std.proofs.lemmas.List.Kept.{AllPairs-filter}
use Rattle.std.proofs.lemmas.List.Sums.{length-filter}
use Rattle.std.proofs.lemmas.Bool.{and_parts, and_from, cases_eq, eqb-true, eq-eqb, ne_eqb}
use Rattle.table_definitions.specs.Classes.{IsNumbering, least, is_least}
use Rattle.table_definitions.specs.Lists.{below}
use Rattle.table_definitions.specs.Places.{edge, backwards, IsJoined, IsInvalidEdge, SameEdge}
use Rattle.table_definitions.proofs.ChainLaws.{joined_sym}
use Rattle.table_definitions.proofs.ClassLaws.{IsLeastOf, least_of}
use Rattle.table_definitions.proofs.Listed.{below-among, Among-filter, filter-among, among_contains, contains_among}
use Rattle.table_definitions.proofs.TableLaws.{Among-below}
use Rattle.skeleton_definitions.specs.Links.{directed, SameDirected, vertex_number, link_vertices}
use Rattle.skeleton_definitions.specs.Skeleton.{Skeleton, IsSkeleton}
use Rattle.surface_definitions.specs.Characteristic.{points, weight}
use Rattle.surface_definitions.specs.declared.Coords.{Coords}
use Rattle.surface_laws.specs.MatchingLaws.{HasTriangles}
use Rattle.surface_laws.proofs.Sums.{sum_by_plus}
use Rattle.surface_laws.proofs.Counting.{sum_by_same, sum_swap, one_term}
use Rattle.surface_quad_laws.specs.LinkLaws.{link_of}
use Rattle.surface_quad_laws.proofs.InnerEdges.{start_below, start_class}
use Rattle.surface_quad_laws.proofs.VertexLinks.{member}
use Rattle.surface_quad_lift_laws.proofs.Ends.{direction_number, direction_below, IsAtClass, joined_class, two_at_class}
use Rattle.surface_link_laws.specs.Laws.{AreInvalidEdgesAt}
use Rattle.surface_link_laws.proofs.Directions.{tail, head, edge_of, edge_of_below, same_either_way, either_way}
use Rattle.surface_link_laws.proofs.Sums.{one_bounded, two_terms, ascending_below}
use Rattle.surface_link_laws.proofs.Weights.{weight-link}
use Rattle.basic_lemmas.proofs.Truths.{one_if}
use Rattle.skeleton_class_laws.proofs.Cases.{low, high, are_ends}
use Rattle.skeleton_class_laws.proofs.EdgeTies.{edge_pair}
use Rattle.skeleton_class_laws.proofs.DirectionTies.{pair_is}
use Rattle.skeleton_class_laws.specs.Crossings.{pair}

none_of : (b : Bool) (m : ℕ) → b ≡ false → one_if b * m ≡ 0
none_of b m e = ap (λ x. one_if x * m) e ∙ omega arith

one_of : (b : Bool) (m : ℕ) → b ≡ true → one_if b * m ≡ m
one_of b m e = ap (λ x. one_if x * m) e ∙ omega arith

module _ (s : Skeleton) (k : IsSkeleton s) (c : ℕ) (directions : List ℕ) (count : ℕ) (numbered : IsNumbering (12 * length s.rows) (SameDirected s.rows) directions count) where
  abbrev n : ℕ
  n = length s.rows

  abbrev class_of : ℕ → ℕ
  class_of i = slice_index s.vertices.classes i

  abbrev at_vertex : ℕ → ℕ → ℕ
  at_vertex t v = member s.vertices.classes c (vertex_number t v)

  -- whether directed edge i is a vertex of the link, as a number
  is_vertex : ℕ → ℕ
  is_vertex i = one_if (is_least directions i && (class_of (vertex_number (i / 12) (tail i)) == c))

  -- joined directed edges begin at one vertex class
  one_tail : (i t a b : ℕ) → a < 4 → IsJoined s.rows (pair t a b) (directed i) → class_of (vertex_number (i / 12) (tail i)) ≡ class_of (vertex_number t a)
  one_tail i t a b la j =
      let d : ℕ = class_of (vertex_number t a) in
      let h : IsAtClass s k (class_of (vertex_number t a)) (pair t a b) = record { v = a; w = b; is = refl; below_four = la; chosen = refl } in
      (two_at_class s k d (i / 12) (tail i) (head i) (joined_class s k d (pair t a b) (directed i) j h)).1

  -- the vertex of the link that a directed edge belongs to
  abbrev vertex_of : ℕ → ℕ → ℕ → ℕ
  vertex_of t a b = least directions (slice_index directions (direction_number t a b))

  module _ (t a b : ℕ) (lt : t < n) (la : a < 4) (lb : b < 4) (ne : a ≢ b) where
    first : IsLeastOf (12 * n) (SameDirected s.rows) directions (direction_number t a b) (vertex_of t a b)
    first = least_of (12 * n) (SameDirected s.rows) directions count numbered (direction_number t a b) (direction_below n t a b lt la lb ne)

    first_joined : IsJoined s.rows (pair t a b) (directed (vertex_of t a b))
    first_joined = subst (λ p. IsJoined s.rows p (directed (vertex_of t a b))) (pair_is t a b la lb ne) first.same

    -- it is counted if its first vertex is of the class
    first_counted : is_vertex (vertex_of t a b) ≡ at_vertex t a
    unfolding is_vertex
    first_counted =
        let i : ℕ = vertex_of t a b in
        let same : least directions (slice_index directions (vertex_of t a b)) ≡ vertex_of t a b = ap (least directions) first.same_class in
        (λ j. one_if (eq-eqb (least directions (slice_index directions i)) i same j && (one_tail i t a b la first_joined j == c)))

    -- a directed edge that is joined to it, and is the least of its class, is this vertex
    reported : (i : ℕ) → i < 12 * n → is_least directions i ≡ true → IsJoined s.rows (directed i) (pair t a b) → i ≡ vertex_of t a b
    reported i l e j =
        let d : ℕ = direction_number t a b in
        let same : slice_index directions i ≡ slice_index directions (direction_number t a b) =
        (numbered.together i d l (direction_below n t a b lt la lb ne)).1 (subst (IsJoined s.rows (directed i)) (sym (pair_is t a b la lb ne)) j) in
        sym (eqb-true (least directions (slice_index directions i)) i e) ∙ ap (least directions) same

  -- the class of the edge of directed edge i
  abbrev edge_class : ℕ → ℕ
  edge_class i = slice_index s.edges.classes (edge_of i)

  -- the first end of an edge class, at its least member
  abbrev first_vertex : ℕ → ℕ
  first_vertex e = vertex_number (least s.edges.classes e / 6) (low (least s.edges.classes e % 6))

  -- whether both directions of an edge class are one class, and so at vertex class c
  is_reversed : ℕ → Bool
  is_reversed e =
      slice_index directions (direction_number (least s.edges.classes e / 6) (low (least s.edges.classes e % 6)) (high (least s.edges.classes e % 6)))
      == slice_index directions (direction_number (least s.edges.classes e / 6) (high (least s.edges.classes e % 6)) (low (least s.edges.classes e % 6)))

  is_extra : ℕ → Bool
  is_extra e = is_reversed e && (class_of (first_vertex e) == c)

  module _ (e : ℕ) (le : e < s.edges.count) where
    abbrev j : ℕ
    j = least s.edges.classes e

    lj : j < 6 * n
    lj = start_below s.rows k.table s.edges.classes s.edges.count k.edges e le

    cj : slice_index s.edges.classes j ≡ e
    cj = start_class s.rows k.table s.edges.classes s.edges.count k.edges e le

    abbrev t : ℕ
    t = j / 6

    abbrev a : ℕ
    a = low (j % 6)

    abbrev b : ℕ
    b = high (j % 6)

    lt : t < n
    lt = let l = lj in omega arith

    small : j % 6 < 6
    small = omega arith

    la : a < 4
    la = (are_ends (j % 6) small).lower

    lb : b < 4
    lb = (are_ends (j % 6) small).higher

    ne : a ≢ b
    ne = (are_ends (j % 6) small).separate

    back : b ≢ a
    back q = ne (sym q)

    -- the two vertices of the link on the edge
    abbrev one : ℕ
    one = vertex_of t a b

    abbrev other : ℕ
    other = vertex_of t b a

    one_below : one < 12 * n
    one_below = (first t a b lt la lb ne).below

    other_below : other < 12 * n
    other_below = (first t b a lt lb la back).below

    -- a directed edge counts for the class of its edge
    term : ℕ → ℕ
    term i = one_if (edge_class i == e) * is_vertex i

    same_class : (i : ℕ) → i < 12 * n → SameEdge s.rows (edge_of i) j → edge_class i ≡ e
    same_class i l h = ((k.edges).together (edge_of i) j (edge_of_below i n l) lj).1 h ∙ cj

    at_one : term one ≡ at_vertex t a
    unfolding term
    at_one =
        let joined : IsJoined s.rows (directed one) (pair t a b) = joined_sym s.rows (pair t a b) (directed one) k.table (la, (lb, tt)) (first_joined t a b lt la lb ne) in
        let same : edge_class one ≡ e = same_class one one_below (same_either_way s.rows one j t a b (edge_pair j) (inl joined)) in
        one_of (edge_class one == e) (is_vertex one) (eq-eqb (edge_class one) e same) ∙ first_counted t a b lt la lb ne

    at_other : term other ≡ at_vertex t b
    unfolding term
    at_other =
        let joined : IsJoined s.rows (directed other) (pair t b a) = joined_sym s.rows (pair t b a) (directed other) k.table (lb, (la, tt)) (first_joined t b a lt lb la back) in
        let same : edge_class other ≡ e = same_class other other_below (same_either_way s.rows other j t a b (edge_pair j) (inr joined)) in
        one_of (edge_class other == e) (is_vertex other) (eq-eqb (edge_class other) e same) ∙ first_counted t b a lt lb la back

    nowhere_else : (i : ℕ) → i < 12 * n → i ≢ one → i ≢ other → term i ≡ 0
    unfolding term is_vertex
    nowhere_else i l off too = by_class (cases_eq (edge_class i) e)
      where
        not_least : edge_class i ≡ e → is_least directions i ≡ true → ⊥
        not_least q h = elim (either_way s.rows i j t a b (edge_pair j) (((k.edges).together (edge_of i) j (edge_of_below i n l) lj).0 (q ∙ sym cj))) [
          | inl w ↦ off (reported t a b lt la lb ne i l h w)
          | inr w ↦ too (reported t b a lt lb la back i l h w)
        ]

        by_least : edge_class i ≡ e → (x : Bool) → is_least directions i ≡ x → one_if (is_least directions i && (class_of (vertex_number (i / 12) (tail i)) == c)) ≡ 0
        by_least q true h = absurd (not_least q h)
        by_least q false h = ap (λ x. one_if (x && (class_of (vertex_number (i / 12) (tail i)) == c))) h

        nothing : (m z : ℕ) → z ≡ 0 → m * z ≡ 0
        nothing m z h = ap (λ x. m * x) h ∙ omega arith

        by_class : (edge_class i ≡ e) ⊎ (edge_class i ≢ e) → one_if (edge_class i == e) * is_vertex i ≡ 0
        by_class (inl q) = nothing (one_if (edge_class i == e)) (is_vertex i) (by_least q (is_least directions i) refl)
        by_class (inr ne) = none_of (edge_class i == e) (is_vertex i) (ne_eqb (edge_class i) e ne)

    -- as numbers of directed edges
    abbrev there : ℕ
    there = direction_number t a b

    abbrev back_there : ℕ
    back_there = direction_number t b a

    invalid_edge : (is_reversed e ≡ true) ↔ IsInvalidEdge s.rows (least s.edges.classes e)
    unfolding is_reversed
    invalid_edge =
        let together = numbered.together there back_there (direction_below n t a b lt la lb ne) (direction_below n t b a lt lb la back) in
        let to : directed there ≡ edge j = pair_is t a b la lb ne ∙ sym (edge_pair j) in
        let from : directed back_there ≡ backwards (edge j) = pair_is t b a lb la back ∙ sym (ap backwards (edge_pair j)) in (
          (λ h. subst₂ (IsJoined s.rows) to from (together.0 (eqb-true (slice_index directions there) (slice_index directions back_there) h))),
          (λ i. eq-eqb (slice_index directions there) (slice_index directions back_there) (together.1 (subst₂ (IsJoined s.rows) (sym to) (sym from) i))),
        )

    -- both directions are one class, or two
    one_for_both : is_reversed e ≡ true → one ≡ other
    unfolding is_reversed
    one_for_both h = ap (least directions) (eqb-true (slice_index directions there) (slice_index directions back_there) h)

    are_two : is_reversed e ≡ false → one ≢ other
    unfolding is_reversed
    are_two h q =
        let same : slice_index directions there ≡ slice_index directions back_there = sym (first t a b lt la lb ne).same_class ∙ ap (slice_index directions) q ∙ (first t b a lt lb la back).same_class in
        let both : false ≡ true = sym h ∙ eq-eqb (slice_index directions there) (slice_index directions back_there) same in
        cc

    counted : at_vertex t a + at_vertex t b ≡ sum_by term (below (12 * n)) + one_if (is_extra e)
    unfolding is_extra
    counted = by_test (is_reversed e) refl
      where
        nothing_more : (x y z w : ℕ) → z ≡ x + y → w ≡ 0 → x + y ≡ z + w
        nothing_more x y z w f g = omega arith

        once_more : (x y z w : ℕ) → z ≡ x → y ≡ x → w ≡ x → x + y ≡ z + w
        once_more x y z w f g h = omega arith

        by_test : (q : Bool) → is_reversed e ≡ q → at_vertex t a + at_vertex t b ≡ sum_by term (below (12 * n)) + one_if (is_reversed e && (class_of (first_vertex e) == c))
        by_test false h =
            nothing_more (at_vertex t a) (at_vertex t b) (sum_by term (below (12 * n))) (one_if (is_reversed e && (class_of (first_vertex e) == c)))
            (two_terms term one other (12 * n) one_below other_below (are_two h) nowhere_else ∙ (λ i. at_one i + at_other i))
            (ap (λ x. one_if (x && (class_of (first_vertex e) == c))) h)
        by_test true h =
            let same : one ≡ other = one_for_both h in
            once_more (at_vertex t a) (at_vertex t b) (sum_by term (below (12 * n))) (one_if (is_reversed e && (class_of (first_vertex e) == c)))
            (one_bounded term one (12 * n) one_below (λ i l off. nowhere_else i l off (λ q. off (q ∙ sym same))) ∙ at_one)
            (sym at_other ∙ ap term (sym same) ∙ at_one)
            (ap (λ x. one_if (x && (class_of (first_vertex e) == c))) h)

  -- each directed edge counts for the class of its edge
  counts_once : (i : ℕ) → i < 12 * n → is_vertex i ≡ sum_by (λ e. one_if (edge_class i == e) * is_vertex i) (below s.edges.count)
  counts_once i l =
      let small : edge_class i < s.edges.count = (k.edges).in_range (edge_of i) (edge_of_below i n l) in
      sym (one_term (λ e. one_if (edge_class i == e) * is_vertex i) (edge_class i) s.edges.count (λ e off. none_of (edge_class i == e) (is_vertex i) (ne_eqb (edge_class i) e (λ q. off (sym q)))) small
      ∙ one_of (edge_class i == edge_class i) (is_vertex i) (eq-eqb (edge_class i) (edge_class i) refl))

  vertices-sum : link_vertices s.vertices.classes directions c ≡ sum_by (λ e. sum_by (λ i. one_if (edge_class i == e) * is_vertex i) (below (12 * n))) (below s.edges.count)
  unfolding is_vertex
  vertices-sum =
      ap (λ m. sum_by is_vertex (below m)) numbered.one_each
      ∙ sum_by_same is_vertex (λ i. sum_by (λ e. one_if (edge_class i == e) * is_vertex i) (below s.edges.count)) (below (12 * n)) (λ i a. counts_once i (below-among i (12 * n) a))
      ∙ sum_swap (λ i e. one_if (edge_class i == e) * is_vertex i) (below (12 * n)) (below s.edges.count)

  -- the edge classes that are counted once more
  pub extra : List ℕ
  extra = filter is_extra (below s.edges.count)

  pub extra_are : AreInvalidEdgesAt s c extra
  unfolding extra is_extra
  extra_are = record {
    ascending = AllPairs-filter ◌<◌ is_extra (below s.edges.count) (ascending_below s.edges.count);
    each = λ e. (
      (λ h. let m = filter-among is_extra e (below s.edges.count) (among_contains e (filter is_extra (below s.edges.count)) h) in
          let le : e < s.edges.count = below-among e s.edges.count m.0 in
          let p = and_parts (is_reversed e) (class_of (first_vertex e) == c) m.1 in
          record { in_range = le; invalid = (invalid_edge e le).0 p.0; at_class = eqb-true (class_of (first_vertex e)) c p.1 }),
      (λ i. contains_among e (filter is_extra (below s.edges.count)) (Among-filter is_extra e (below s.edges.count) (Among-below e s.edges.count i.in_range)
          (and_from (is_reversed e) (class_of (first_vertex e) == c) ((invalid_edge e i.in_range).1 i.invalid) (eq-eqb (class_of (first_vertex e)) c i.at_class)))),
    );
  }

  pub points-link : (coords : Coords) → HasTriangles coords → points coords (link_of s coords c) s.edges.classes s.edges.count ≡ link_vertices s.vertices.classes directions c + length extra
  unfolding term extra
  points-link coords h =
      sum_by_same (λ e. weight coords (link_of s coords c) (least s.edges.classes e)) (λ e. sum_by (λ i. one_if (edge_class i == e) * is_vertex i) (below (12 * n)) + one_if (is_extra e)) (below s.edges.count)
      (λ e m. let le : e < s.edges.count = below-among e s.edges.count m in
      weight-link n s.vertices.classes c coords h (least s.edges.classes e) (lj e le) ∙ counted e le)
      ∙ sum_by_plus (λ e. sum_by (λ i. one_if (edge_class i == e) * is_vertex i) (below (12 * n))) (λ e. one_if (is_extra e)) (λ e. sum_by (λ i. one_if (edge_class i == e) * is_vertex i) (below (12 * n)) + one_if (is_extra e)) (λ e. refl) (below s.edges.count)
      ∙ (λ i. sym vertices-sum i + sym (length-filter is_extra (below s.edges.count)) i)
