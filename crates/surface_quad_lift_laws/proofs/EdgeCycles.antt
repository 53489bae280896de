-- Around an end of sides none of which lies in a boundary face there is a cycle, by the quad equation of its edge.
use Rattle.surface_quad_lift_laws.proofs.FreeSides.{none_is}
use Rattle.surface_quad_lift_laws.proofs.SideLists.{flag_of, flag_in}
use Rattle.surface_quad_lift_laws.proofs.OneSides.{third_is}
use Rattle.std.proofs.Common.{◌≡◌, ◌≢◌, ℕ, ◌*◌, ◌/◌, ◌%◌, ◌<◌, Bool, true, false, not, List, [], ◌∷◌, length, map, Option, Some, ◌⊎◌, inl, inr, refl, sym, ap, ◌∙◌, subst, subst₂, arith, None}
use Rattle.std.specs.Prelude.{◌==◌, ◌&&◌, sum_by, slice_index}
use Rattle.std.specs.List.{AllByRecursion, AllZip}
use Rattle.std.proofs.lemmas.Bool.{and_parts, or_parts, eqb-true, eqb-false, not-true, cases_eq}
use Rattle.std.proofs.lemmas.List.Elements.{recursion_from_All}
use Rattle.cone_definitions.specs.Rows.{Row as EquationRow, IsZeroAt, IsSolution}
use Rattle.table_definitions.specs.Classes.{IsNumbering, least}
use Rattle.table_definitions.specs.Lists.{below, has}
use Rattle.table_definitions.specs.Permutation.{four}
use Rattle.table_definitions.specs.Table.{Gluing, glue}
use Rattle.table_definitions.specs.Places.{Place, edge, ends, backwards, IsJoined, SameEdge, is_boundary, lies_in_boundary, is_boundary_edge}
use Rattle.table_definitions.proofs.ChainLaws.{joined_sym, joined_trans, joined_turned}
use Rattle.table_definitions.proofs.Listed.{contains_among, among_contains, map-among, all_mapped, all_at, Among-filter, below-among}
use Rattle.table_definitions.proofs.TableLaws.{Among, Among-below, Among-map, four-among}
use Rattle.table_definitions.proofs.Faces.{face_at}
use Rattle.skeleton_definitions.specs.Corners.{Corner, first_corner, AreCorners, internal_edges, left_through}
use Rattle.skeleton_definitions.specs.Links.{SameDirected}
use Rattle.skeleton_definitions.specs.Skeleton.{Skeleton}
use Rattle.surface_definitions.specs.Coordinates.{columns, quad_column, keeping}
use Rattle.surface_definitions.specs.declared.Coords.TheVariants.{Quad}
use Rattle.surface_definitions.specs.Equations.{Holds, row_of}
use Rattle.surface_definitions.specs.QuadEquations.{quad_equation, IsQuadRow, AreQuadEquations}
use Rattle.surface_definitions.proofs.EquationLaws.{row_is_zero}
use Rattle.surface_laws.proofs.Counting.{sum_by-map}
use Rattle.surface_laws.proofs.LinkingLemmas.{test_any}
use Rattle.surface_laws.proofs.Turns.{keeping_below}
use Rattle.surface_quad_laws.proofs.InnerEdges.{edge_at, HasEdge, has_edge, IsRound, reached_round, leads_on, start_below, start_class}
use Rattle.surface_laws.proofs.CornerSteps.{LeadsOn}
use Rattle.surface_quad_laws.proofs.Rounds.{HasFourVertices}
use Rattle.surface_quad_lift_laws.proofs.Cycles.{IsCycle, opposite_cycle, corners_cycle, corner_there}
use Rattle.surface_quad_lift_laws.proofs.DualTree.{quads}
use Rattle.surface_quad_lift_laws.proofs.Ends.{end_of, joined_ends, IsAtClass, joined_class, two_at_class, end_at}
use Rattle.surface_quad_lift_laws.proofs.Flags.{IsVertexClass, IsFlag, mate, mate-opposite, flip, opposite, turn, turn_in}
use Rattle.skeleton_class_laws.specs.Crossings.{pair}
use Rattle.skeleton_class_laws.proofs.Cases.{low, high, are_ends}
use Rattle.skeleton_class_laws.proofs.EdgeTies.{edge_pair, edge_by_ends}

-- a relation of two lists, item by item
zip_at : {A B : Type 0} (R : A → B → Type 0) (xs : List A) (ys : List B) (x : A) → AllZip R xs ys → Among x xs → (y : B) × Among y ys × R x y
zip_at R [] ys x h a = absurd a
zip_at R (w ∷ ws) [] x h a = absurd h
zip_at R (w ∷ ws) (y ∷ ys) x h (inl e) = (y, inl refl, subst (λ v. R v y) (sym e) h.0)
zip_at R (w ∷ ws) (y ∷ ys) x h (inr a) = let m = zip_at R ws ys x h.1 a in (m.0, inr m.1, m.2)

module _ (s : Skeleton) (c : ℕ) (z : IsVertexClass s c) (directions : List ℕ) (count : ℕ) (numbered : IsNumbering (12 * length s.rows) (SameDirected s.rows) directions count) where
  abbrev n : ℕ
  n = length s.rows

  abbrev end : Corner → ℕ
  end k = end_of s c z directions count numbered k

  -- a cycle around the end of a flag, with the flag or its mate
  pub record HasCycle (xs : List ℕ) (k : Corner) : Type 0 where
    pub ks : List Corner
    pub cycle : IsCycle s.rows xs ks
    pub flags : (l : Corner) → Among l ks → IsFlag s c z l
    pub ends_are : (l : Corner) → Among l ks → end l ≡ end k
    pub holds : Among k ks ⊎ Among (mate s.rows k) ks

  -- a flag's edge
  module _ (k : Corner) (h : IsFlag s c z k) (inner_end : (m : Corner) → IsFlag s c z m → glue s.rows (left_through m) ≡ None → end m ≡ end k → ⊥) where
    on_k : LeadsOn s.rows k
    on_k = go (glue s.rows (left_through k)) refl
      where
        go : (o : Option Gluing) → glue s.rows (left_through k) ≡ o → LeadsOn s.rows k
        go None e = absurd (inner_end k h e refl)
        go (Some g) e = record { g = g; glued = e }

    four_k : HasFourVertices n k
    four_k = h.four

    edge_of_k : HasEdge k.a k.b
    edge_of_k = has_edge k.a k.b four_k.a four_k.b four_k.ab

    abbrev j : ℕ
    j = edge_at k.tet k.a k.b

    low_j : j < 6 * n
    low_j = let t = four_k.tet in let m = edge_of_k.small in omega arith

    edge_is : (edge j ≡ pair k.tet k.a k.b) ⊎ (edge j ≡ pair k.tet k.b k.a)
    edge_is = elim edge_of_k.ends_are [
      | inl e ↦ inl (edge_by_ends k.tet k.a k.b k.a k.b edge_of_k.small e)
      | inr e ↦ inr (edge_by_ends k.tet k.a k.b k.b k.a edge_of_k.small e)
    ]

    k_at_class : IsAtClass s (z.skeleton) c (pair k.tet k.a k.b)
    k_at_class = record { v = k.a; w = k.b; is = refl; below_four = four_k.a; chosen = h.chosen }

    -- an edge of the class of this one, in one direction or the other
    joined_either : (i : ℕ) → SameEdge s.rows j i → IsJoined s.rows (pair k.tet k.a k.b) (pair (i / 6) (low (i % 6)) (high (i % 6))) ⊎ IsJoined s.rows (pair k.tet k.a k.b) (pair (i / 6) (high (i % 6)) (low (i % 6)))
    joined_either i same = by_edge edge_is same
      where
        by_edge : (edge j ≡ pair k.tet k.a k.b) ⊎ (edge j ≡ pair k.tet k.b k.a) → SameEdge s.rows j i
            → IsJoined s.rows (pair k.tet k.a k.b) (pair (i / 6) (low (i % 6)) (high (i % 6))) ⊎ IsJoined s.rows (pair k.tet k.a k.b) (pair (i / 6) (high (i % 6)) (low (i % 6)))
        by_edge (inl e) (inl d) = inl (subst₂ (IsJoined s.rows) e (edge_pair i) d)
        by_edge (inl e) (inr d) = inr (subst₂ (IsJoined s.rows) e (ap backwards (edge_pair i)) d)
        by_edge (inr e) (inl d) = inr (subst₂ (IsJoined s.rows) (ap backwards e) (ap backwards (edge_pair i)) (joined_turned s.rows (edge j) (edge i) d))
        by_edge (inr e) (inr d) = inl (subst₂ (IsJoined s.rows) (ap backwards e) (ap (λ p. backwards (backwards p)) (edge_pair i)) (joined_turned s.rows (edge j) (backwards (edge i)) d))

    -- no face around such an edge is a boundary face
    never_free : (t v w f : ℕ) → t < n → w < 4 → f < 4 → v ≢ f → w ≢ f → v ≢ w → IsJoined s.rows (pair k.tet k.a k.b) (pair t v w) → is_boundary s.rows (face_at t f) ≡ true → ⊥
    never_free t v w f lt lw lf vf wf vw d free =
        let o = two_at_class s (z.skeleton) c t v w (joined_class s (z.skeleton) c (pair k.tet k.a k.b) (pair t v w) d k_at_class) in
        let m : Corner = flag_of t v f in
        let flag : IsFlag s c z m = flag_in s c z t v f lt o.0 lf vf o.1 in
        let x : HasFourVertices n m = flag.four in
        let e : glue s.rows (face_at t f) ≡ None = none_is (glue s.rows (face_at t f)) free in
        let same : end_at s c z directions count numbered t v w ≡ end k = sym (joined_ends s c z directions count numbered k.tet k.a k.b t v w four_k.tet four_k.a four_k.b four_k.ab lt o.0 lw vw d) in
        elim (cases_eq w m.b) [
          | inl q ↦ inner_end m flag e (ap (end_at s c z directions count numbered t v) (sym q) ∙ same)
          | inr off ↦ (let q : w ≡ m.d = third_is v f m.d m.b w x.a x.c x.d x.b lw x.ac x.ad x.ab x.cd (λ p. x.bc (sym p)) (λ p. x.bd (sym p)) vw (λ p. wf (sym p)) off in
              inner_end (turn m) (turn_in s c z m flag) e (ap (end_at s c z directions count numbered t v) (sym q) ∙ same))
        ]

    module _ (classes : List ℕ) (edges : ℕ) (edge_classes : IsNumbering (6 * n) (SameEdge s.rows) classes edges) where
      abbrev class_e : ℕ
      class_e = slice_index classes j

      inner : is_boundary_edge s.rows classes class_e ≡ false
      inner = by_test (is_boundary_edge s.rows classes class_e) refl
        where
          free_edge : (i f : ℕ) → i < 6 * n → slice_index classes i ≡ class_e → f < 4 → has (ends (i % 6)) f ≡ false → is_boundary s.rows (face_at (i / 6) f) ≡ true → ⊥
          free_edge i f li same lf off free =
              let off_two : has (low (i % 6) ∷ high (i % 6) ∷ []) f ≡ false = ap (λ (vs : List ℕ). has vs f) (sym (are_ends (i % 6) (omega arith)).two) ∙ off in
              let p = or_parts (low (i % 6) == f) (has (high (i % 6) ∷ []) f) off_two in
              let first_off : low (i % 6) ≢ f = eqb-false (low (i % 6)) f p.0 in
              let last_off : high (i % 6) ≢ f = eqb-false (high (i % 6)) f (or_parts (high (i % 6) == f) false p.1).0 in
              let lt : i / 6 < n = omega arith in
              let apart_ends = are_ends (i % 6) (omega arith) in
              elim (joined_either i ((edge_classes.together j i low_j li).0 (sym same))) [
                | inl d ↦ never_free (i / 6) (low (i % 6)) (high (i % 6)) f lt apart_ends.higher lf first_off last_off apart_ends.separate d free
                | inr d ↦ never_free (i / 6) (high (i % 6)) (low (i % 6)) f lt apart_ends.lower lf last_off first_off (λ q. apart_ends.separate (sym q)) d free
              ]

          by_test : (b : Bool) → is_boundary_edge s.rows classes class_e ≡ b → is_boundary_edge s.rows classes class_e ≡ false
          by_test false e = e
          by_test true e =
              let m = test_any (λ i. (slice_index classes i == class_e) && lies_in_boundary s.rows i) (below (length classes)) e in
              let p = and_parts (slice_index classes m.0 == class_e) (lies_in_boundary s.rows m.0) m.2 in
              let f = test_any (λ f. not (has (ends (m.0 % 6)) f) && is_boundary s.rows (face_at (m.0 / 6) f)) four p.1 in
              let q = and_parts (not (has (ends (m.0 % 6)) f.0)) (is_boundary s.rows (face_at (m.0 / 6) f.0)) f.2 in
              let li : m.0 < 6 * n = let l = below-among m.0 (length classes) m.1 in let o = edge_classes.one_each in omega arith in
              absurd (free_edge m.0 f.0 li (eqb-true (slice_index classes m.0) class_e p.0) (four-among f.0 f.1) (not-true (has (ends (m.0 % 6)) f.0) q.0) q.1)

      low_e : class_e < edges
      low_e = edge_classes.in_range j low_j

      abbrev first : Corner
      first = first_corner (least classes class_e)

      -- the corners of the quad equation of the edge's class
      module _ (corners : List Corner) (are : AreCorners s.rows first corners) (xs : List ℕ) (zero_row : IsZeroAt (row_of (columns Quad n) (quad_equation corners)) xs) where
        round : (l : Corner) → Among l corners → IsRound s.rows (z.skeleton).table classes edges edge_classes class_e low_e l
        round l a = reached_round s.rows (z.skeleton).table classes edges edge_classes class_e low_e l ((are.reached l).0 (contains_among l corners a))

        leads : (l : Corner) → Among l corners → LeadsOn s.rows l
        leads l a = leads_on s.rows (z.skeleton).table classes edges edge_classes class_e low_e inner l (round l a)

        in_columns : (t i : ℕ) → t < n → i < 3 → quad_column Quad t i < columns Quad n
        in_columns t i lt li = omega arith

        both_sums : sum_by (quads xs) corners ≡ sum_by (λ l. quads xs (flip l)) corners
        both_sums =
            let holds : Holds (quad_equation corners) xs = row_is_zero (quad_equation corners) xs (columns Quad n)
            (all_mapped (λ i. i < columns Quad n) (λ (l : Corner). quad_column Quad l.tet (keeping l.a l.c)) corners (λ l a. let f = (round l a).four in in_columns l.tet (keeping l.a l.c) f.tet (keeping_below l.a l.c f.a f.c f.ac)))
            (all_mapped (λ i. i < columns Quad n) (λ (l : Corner). quad_column Quad l.tet (keeping l.a l.d)) corners (λ l a. let f = (round l a).four in in_columns l.tet (keeping l.a l.d) f.tet (keeping_below l.a l.d f.a f.d f.ad)))
            zero_row in
            sym (sum_by-map (slice_index xs) (λ (l : Corner). quad_column Quad l.tet (keeping l.a l.c)) corners) ∙ holds ∙ sum_by-map (slice_index xs) (λ (l : Corner). quad_column Quad l.tet (keeping l.a l.d)) corners

        cycle : IsCycle s.rows xs corners
        cycle = corners_cycle s.rows (z.skeleton).table xs first corners are (λ l a. (round l a).four) leads both_sums

        from_first : (l : Corner) → Among l corners → IsJoined s.rows (pair first.tet first.a first.b) (pair l.tet l.a l.b)
        from_first l a = subst (λ p. IsJoined s.rows p (pair l.tet l.a l.b)) (edge_pair (least classes class_e)) (round l a).joined

        -- the first edge of the class is joined to the flag's directed edge, or to its reverse
        first_either : IsJoined s.rows (pair first.tet first.a first.b) (pair k.tet k.a k.b) ⊎ IsJoined s.rows (pair first.tet first.a first.b) (pair k.tet k.b k.a)
        first_either = by_edge edge_is ((edge_classes.together (least classes class_e) j (start_below s.rows (z.skeleton).table classes edges edge_classes class_e low_e) low_j).0 (start_class s.rows (z.skeleton).table classes edges edge_classes class_e low_e))
          where
            by_edge : (edge j ≡ pair k.tet k.a k.b) ⊎ (edge j ≡ pair k.tet k.b k.a) → SameEdge s.rows (least classes class_e) j
                → IsJoined s.rows (pair first.tet first.a first.b) (pair k.tet k.a k.b) ⊎ IsJoined s.rows (pair first.tet first.a first.b) (pair k.tet k.b k.a)
            by_edge (inl e) (inl d) = inl (subst₂ (IsJoined s.rows) (edge_pair (least classes class_e)) e d)
            by_edge (inr e) (inl d) = inr (subst₂ (IsJoined s.rows) (edge_pair (least classes class_e)) e d)
            by_edge (inl e) (inr d) = inr (subst₂ (IsJoined s.rows) (edge_pair (least classes class_e)) (ap backwards e) d)
            by_edge (inr e) (inr d) = inl (subst₂ (IsJoined s.rows) (edge_pair (least classes class_e)) (ap backwards e) d)

        -- a corner whose directed edge is joined to the flag's is a flag with the same end
        flag_by : (l : Corner) → HasFourVertices n l → IsJoined s.rows (pair k.tet k.a k.b) (pair l.tet l.a l.b) → IsFlag s c z l × (end l ≡ end k)
        flag_by l f d = (
          record { four = f; chosen = (two_at_class s (z.skeleton) c l.tet l.a l.b (joined_class s (z.skeleton) c (pair k.tet k.a k.b) (pair l.tet l.a l.b) d k_at_class)).1 },
          sym (joined_ends s c z directions count numbered k.tet k.a k.b l.tet l.a l.b four_k.tet four_k.a four_k.b four_k.ab f.tet f.a f.b f.ab d),
        )

        small_two : (a b : ℕ) → a < 4 → b < 4 → AllByRecursion (λ v. v < 4) (a ∷ b ∷ [])
        small_two a b la lb = (la, (lb, tt))

        between : (p : Place) (l : Corner) → IsJoined s.rows (pair first.tet first.a first.b) p → Among l corners → AllByRecursion (λ v. v < 4) (first.a ∷ first.b ∷ []) → IsJoined s.rows p (pair l.tet l.a l.b)
        between p l d a small = joined_trans s.rows p (pair first.tet first.a first.b) (pair l.tet l.a l.b) (joined_sym s.rows (pair first.tet first.a first.b) p (z.skeleton).table small d) (from_first l a)

        small : AllByRecursion (λ v. v < 4) (first.a ∷ first.b ∷ [])
        small = let f = (round first (among_contains first corners ((are.reached first).1 (0, refl)))).four in small_two first.a first.b f.a f.b

        from_k : (l : Corner) → IsJoined s.rows (pair first.tet first.a first.b) (pair k.tet k.a k.b) → Among l corners → IsFlag s c z l × (end l ≡ end k)
        from_k l d a = flag_by l (cycle.four l a) (between (pair k.tet k.a k.b) l d a small)

        reversed_cycle : IsCycle s.rows xs (map opposite corners)
        reversed_cycle = opposite_cycle s.rows (z.skeleton).table xs corners cycle

        from_reversed : (l : Corner) → IsJoined s.rows (pair first.tet first.a first.b) (pair k.tet k.b k.a) → Among l (map opposite corners) → IsFlag s c z l × (end l ≡ end k)
        from_reversed l d a =
            let m = map-among opposite l corners a in
            let o : Corner = opposite m.0 in
            let j : IsJoined s.rows (pair k.tet k.a k.b) (pair o.tet o.a o.b) = joined_turned s.rows (pair k.tet k.b k.a) (pair m.0.tet m.0.a m.0.b) (between (pair k.tet k.b k.a) m.0 d m.1 small) in
            subst (λ (u : Corner). IsFlag s c z u × (end u ≡ end k)) (sym m.2) (flag_by o (reversed_cycle.four o (Among-map opposite m.0 corners m.1)) j)

        reversed_k : HasFourVertices n (opposite k)
        reversed_k = let f = four_k in record { tet = f.tet; a = f.b; b = f.a; c = f.c; d = f.d; ab = λ e. f.ab (sym e); ac = f.bc; ad = f.bd; bc = f.ac; bd = f.ad; cd = f.cd }

        reversed_holds : IsJoined s.rows (pair first.tet first.a first.b) (pair k.tet k.b k.a) → Among k (map opposite corners) ⊎ Among (mate s.rows k) (map opposite corners)
        reversed_holds d =
            let w : LeadsOn s.rows k = on_k in
            elim (corner_there s.rows (z.skeleton).table xs first corners are (λ l a. (round l a).four) leads both_sums (opposite k) reversed_k (record { g = w.g; glued = w.glued }) d) [
              | inl a ↦ inl (Among-map opposite (opposite k) corners a)
              | inr a ↦ inr (subst (λ (u : Corner). Among u (map opposite corners)) (ap opposite (mate-opposite s.rows k)) (Among-map opposite (mate s.rows (opposite k)) corners a))
            ]

        has_cycle : HasCycle xs k
        has_cycle = elim first_either [
          | inl d ↦ record {
            ks = corners;
            cycle = cycle;
            flags = λ l a. (from_k l d a).0;
            ends_are = λ l a. (from_k l d a).1;
            holds = corner_there s.rows (z.skeleton).table xs first corners are (λ l a. (round l a).four) leads both_sums k four_k on_k d;
          }
          | inr d ↦ record {
            ks = map opposite corners;
            cycle = reversed_cycle;
            flags = λ l a. (from_reversed l d a).0;
            ends_are = λ l a. (from_reversed l d a).1;
            holds = reversed_holds d;
          }
        ]

  pub cycle_of : (quad_rows : List EquationRow) → AreQuadEquations s.rows quad_rows → (xs : List ℕ) → IsSolution (columns Quad n) quad_rows xs → (k : Corner) → IsFlag s c z k
      → ((m : Corner) → IsFlag s c z m → glue s.rows (left_through m) ≡ None → end m ≡ end k → ⊥) → HasCycle xs k
  cycle_of quad_rows are xs solution k h inner_end =
      let e : ℕ = slice_index are.classes (edge_at k.tet k.a k.b) in
      let listed : Among e (internal_edges s.rows are.classes are.count) =
      Among-filter (λ d. not (is_boundary_edge s.rows are.classes d)) e (below are.count) (Among-below e are.count (low_e k h inner_end are.classes are.count are.numbered)) (ap not (inner k h inner_end are.classes are.count are.numbered)) in
      let row = zip_at (IsQuadRow s.rows are.classes) (internal_edges s.rows are.classes are.count) quad_rows e are.each listed in
      let zero : IsZeroAt row.0 xs = all_at (λ (r : EquationRow). IsZeroAt r xs) quad_rows row.0 (recursion_from_All (λ (r : EquationRow). IsZeroAt r xs) quad_rows solution.zero) row.1 in
      let is = row.2 in
      has_cycle k h inner_end are.classes are.count are.numbered is.0 is.1 xs (subst (λ (r : EquationRow). IsZeroAt r xs) is.2 zero)
