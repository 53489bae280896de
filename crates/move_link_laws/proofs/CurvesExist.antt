-- Each link has a number of boundary curves: its boundary arcs are numbered so that arcs that meet have one number.
use Rattle.std.proofs.Common.{◌≡◌, ◌↔◌, ℕ, ◌<◌, Bool, true, List, [], ◌∷◌, length, filter, Contains, refl, sym, ap, ◌∙◌, subst, subst₂, arith}
use Rattle.std.specs.Prelude.{◌==◌, ◌&&◌, not, nat_lt, slice_index}
use Rattle.std.specs.List.{list_any, slice_index_or}
use Rattle.std.proofs.lemmas.Bool.{and_parts, and_from, eqb-true, eq-eqb, ne_eqb, eqb-false, not-true, not_from_false, ltb-true, lt-ltb}
use Rattle.std.proofs.lemmas.List.{get_or_default}
use Rattle.std.proofs.lemmas.List.Elements.{Contains-get_or}
use Rattle.table_definitions.specs.Classes.{least}
use Rattle.table_definitions.specs.Lists.{below}
use Rattle.table_definitions.specs.Permutation.{four}
use Rattle.table_definitions.specs.Places.{Place, IsJoined as JoinedPlaces}
use Rattle.table_definitions.proofs.ClassLaws.{least_class}
use Rattle.table_definitions.proofs.Listed.{contains_among, among_contains, Among-filter, filter-among, below-among}
use Rattle.table_definitions.proofs.TableLaws.{Among-below, Among-four, four-among}
use Rattle.table_walk_laws.specs.Joined.{LeadsBy, IsJoined, IsSymmetric, HasNeighboursBelow}
use Rattle.table_walk_laws.proofs.Numberings.{HasNumbering, numbering_exists}
use Rattle.skeleton_definitions.specs.Skeleton.{Skeleton, IsSkeleton}
use Rattle.skeleton_class_laws.specs.Crossings.{pair, direction_at}
use Rattle.skeleton_class_laws.specs.Laws.{HasClasses}
use Rattle.skeleton_class_laws.specs.declared.Kind.TheVariants.{Directions}
use Rattle.skeleton_class_laws.proofs.Numbered.{classes_exist}
use Rattle.surface_laws.proofs.LinkingLemmas.{any_test, test_any}
use Rattle.skeleton_laws.proofs.Arrows.{IsArrow, arrow_below, arrow_again}
use Rattle.move_link_laws.specs.BoundaryCurves.{LinkSide, IsBoundaryArc, IsEndOf, ArcsMeet, LeadsByArcs, AreOnOneCurve, HasBoundaryCurves, SomeBoundaryCurves}
use Rattle.move_link_laws.proofs.ArcNumbers.{arc_number, arc_of, arc_numbers, arc_again, arc_is, is_arc}
use Rattle.move_link_laws.proofs.Curves.{meets_itself, meet_back}

module _ (s : Skeleton) (k : IsSkeleton s) (c : ℕ) (d : HasClasses Directions s.rows) where
  abbrev Arc : LinkSide → Type 0
  Arc a = IsBoundaryArc s c a

  -- ---- two arcs meet if and only if their ends have a class in common

  is_end : LinkSide → ℕ → Bool
  is_end a w = not (w == a.vertex) && not (w == a.face)

  abbrev end_at : LinkSide → ℕ → Place
  end_at a w = pair a.tet a.vertex w

  abbrev end_class : LinkSide → ℕ → ℕ
  end_class a w = slice_index d.classes (direction_at (end_at a w))

  meets_at : LinkSide → LinkSide → ℕ → ℕ → Bool
  meets_at a b v w = is_end a v && (is_end b w && (end_class a v == end_class b w))

  meets : LinkSide → LinkSide → Bool
  meets a b = list_any (λ v. list_any (λ w. meets_at a b v w) four) four

  end_is : (a : LinkSide) (w : ℕ) → w < 4 → is_end a w ≡ true → IsEndOf a (end_at a w)
  unfolding is_end
  end_is a w l t =
      let p = and_parts (not (w == a.vertex)) (not (w == a.face)) t in
      record { further = w; is_vertex = l; off_vertex = eqb-false w a.vertex (not-true (w == a.vertex) p.0); in_face = eqb-false w a.face (not-true (w == a.face) p.1); is = refl }

  is_end_of : (a : LinkSide) (p : Place) (e : IsEndOf a p) → is_end a e.further ≡ true
  unfolding is_end
  is_end_of a p e = and_from (not (e.further == a.vertex)) (not (e.further == a.face)) (not_from_false (e.further == a.vertex) (ne_eqb e.further a.vertex e.off_vertex)) (not_from_false (e.further == a.face) (ne_eqb e.further a.face e.in_face))

  end_arrow : (a : LinkSide) (p : Place) → Arc a → IsEndOf a p → IsArrow (length s.rows) p
  end_arrow a p is e = record {
    v = a.vertex;
    w = e.further;
    is = e.is ∙ (λ i. pair ((sym e.is i).tet) a.vertex e.further);
    below = subst (λ (r : Place). r.tet < length s.rows) (sym e.is) is.in_range;
    low_v = is.is_vertex;
    low_w = e.is_vertex;
    separate = λ z. e.off_vertex (sym z);
  }

  -- two directed edges are of one class if and only if they are joined
  one_class : (p q : Place) → IsArrow (length s.rows) p → IsArrow (length s.rows) q → (slice_index d.classes (direction_at p) ≡ slice_index d.classes (direction_at q)) ↔ JoinedPlaces s.rows p q
  one_class p q a b =
      let z = d.numbered.together (direction_at p) (direction_at q) (arrow_below (length s.rows) p a) (arrow_below (length s.rows) q b) in (
        (λ e. subst₂ (JoinedPlaces s.rows) (arrow_again (length s.rows) p a) (arrow_again (length s.rows) q b) (z.0 e)),
        (λ j. z.1 (subst₂ (JoinedPlaces s.rows) (sym (arrow_again (length s.rows) p a)) (sym (arrow_again (length s.rows) q b)) j)),
      )

  meet_is : (a b : LinkSide) → Arc a → Arc b → meets a b ≡ true → ArcsMeet s.rows a b
  unfolding meets meets_at
  meet_is a b ia ib t =
      let v = test_any (λ v. list_any (λ w. meets_at a b v w) four) four t in
      let w = test_any (λ w. meets_at a b v.0 w) four v.2 in
      let x = and_parts (is_end a v.0) (is_end b w.0 && (end_class a v.0 == end_class b w.0)) w.2 in
      let y = and_parts (is_end b w.0) (end_class a v.0 == end_class b w.0) x.1 in
      let e = end_is a v.0 (four-among v.0 v.1) x.0 in
      let f = end_is b w.0 (four-among w.0 w.1) y.0 in
      record {
        end = end_at a v.0;
        other_end = end_at b w.0;
        of_one = e;
        of_other = f;
        joined = (one_class (end_at a v.0) (end_at b w.0) (end_arrow a (end_at a v.0) ia e) (end_arrow b (end_at b w.0) ib f)).0 (eqb-true (end_class a v.0) (end_class b w.0) y.1);
      }

  is_meeting : (a b : LinkSide) → Arc a → Arc b → ArcsMeet s.rows a b → meets a b ≡ true
  unfolding meets meets_at
  is_meeting a b ia ib m =
      let v : ℕ = m.of_one.further in
      let w : ℕ = m.of_other.further in
      let same : end_class a m.of_one.further ≡ end_class b m.of_other.further =
      ap (λ (p : Place). slice_index d.classes (direction_at p)) (sym m.of_one.is)
      ∙ (one_class m.end m.other_end (end_arrow a m.end ia m.of_one) (end_arrow b m.other_end ib m.of_other)).1 m.joined
      ∙ ap (λ (p : Place). slice_index d.classes (direction_at p)) m.of_other.is in
      any_test (λ v. list_any (λ w. meets_at a b v w) four) m.of_one.further four (Among-four m.of_one.further m.of_one.is_vertex)
      (any_test (λ w. meets_at a b m.of_one.further w) m.of_other.further four (Among-four m.of_other.further m.of_other.is_vertex)
      (and_from (is_end a m.of_one.further) (is_end b m.of_other.further && (end_class a m.of_one.further == end_class b m.of_other.further)) (is_end_of a m.end m.of_one)
      (and_from (is_end b m.of_other.further) (end_class a m.of_one.further == end_class b m.of_other.further) (is_end_of b m.other_end m.of_other) (eq-eqb (end_class a m.of_one.further) (end_class b m.of_other.further) same))))

  -- ---- the arcs, by their indices in the list of all

  abbrev all : List ℕ
  all = arc_numbers s k c

  abbrev size : ℕ
  size = length (arc_numbers s k c)

  abbrev arc_at : ℕ → LinkSide
  arc_at i = arc_of (slice_index_or all i 0)

  at_arc : (i : ℕ) → i < size → Arc (arc_at i)
  at_arc i l = arc_is s k c (slice_index_or all i 0) (among_contains (slice_index_or all i 0) all (Contains-get_or all i 0 l))

  found : (a : LinkSide) → Arc a → (i : ℕ) × (i < size) × (arc_at i ≡ a)
  found a is =
      let f = contains_among (arc_number a) all (is_arc s k c a is) in
      (f.0, f.1, ap arc_of (get_or_default all f.0 0 (arc_number a) f.1 ∙ f.2) ∙ arc_again s c a is)

  adjacent : ℕ → ℕ → Bool
  adjacent i j = nat_lt i size && meets (arc_at i) (arc_at j)

  neighbours : ℕ → List ℕ
  neighbours i = filter (adjacent i) (below size)

  neighbour_is : (i j : ℕ) → Contains (neighbours i) j → (i < size) × (j < size) × ArcsMeet s.rows (arc_at i) (arc_at j)
  unfolding neighbours adjacent
  neighbour_is i j h =
      let f = filter-among (adjacent i) j (below size) (among_contains j (neighbours i) h) in
      let p = and_parts (nat_lt i size) (meets (arc_at i) (arc_at j)) f.1 in
      let li : i < size = ltb-true i size p.0 in
      let lj : j < size = below-among j size f.0 in
      (li, lj, meet_is (arc_at i) (arc_at j) (at_arc i li) (at_arc j lj) p.1)

  is_neighbour : (i j : ℕ) → i < size → j < size → ArcsMeet s.rows (arc_at i) (arc_at j) → Contains (neighbours i) j
  unfolding neighbours adjacent
  is_neighbour i j li lj m =
      contains_among j (neighbours i) (Among-filter (adjacent i) j (below size) (Among-below j size lj)
      (and_from (nat_lt i size) (meets (arc_at i) (arc_at j)) (lt-ltb i size li) (is_meeting (arc_at i) (arc_at j) (at_arc i li) (at_arc j lj) m)))

  symmetric : IsSymmetric neighbours
  symmetric i j h = let n = neighbour_is i j h in is_neighbour j i n.1 n.0 (meet_back s c k (arc_at i) (arc_at j) (at_arc i n.0) n.2)

  within : HasNeighboursBelow size neighbours
  within i j l h = (neighbour_is i j h).1

  -- ---- arcs are on one curve if and only if a chain of neighbours joins their indices

  curve_by : (path : List ℕ) (i j : ℕ) → LeadsBy (λ a b. Contains (neighbours a) b) i path j → AreOnOneCurve s c (arc_at i) (arc_at j)
  curve_by [] i j e = ([], ap arc_at e)
  curve_by (z ∷ path) i j l =
      let n = neighbour_is i z l.0 in
      let rest = curve_by path z j l.1 in
      (arc_at z ∷ rest.0, (at_arc z n.1, n.2, rest.1))

  path_by : (arcs : List LinkSide) (i j : ℕ) → i < size → j < size → LeadsByArcs s c (arc_at i) arcs (arc_at j) → IsJoined neighbours i j
  path_by [] i j li lj e = (j ∷ [], (is_neighbour i j li lj (subst (ArcsMeet s.rows (arc_at i)) e (meets_itself s (arc_at i))), refl))
  path_by (x ∷ arcs) i j li lj l =
      let z = found x l.0 in
      let first : ArcsMeet s.rows (arc_at i) (arc_at z.0) = subst (ArcsMeet s.rows (arc_at i)) (sym z.2) l.1 in
      let rest = path_by arcs z.0 j z.1 lj (subst (λ a. LeadsByArcs s c a arcs (arc_at j)) (sym z.2) l.2) in
      (z.0 ∷ rest.0, (is_neighbour i z.0 li z.1 first, rest.1))

  abbrev OnCurve : ℕ → ℕ → Type 0
  OnCurve i j = AreOnOneCurve s c (arc_at i) (arc_at j)

  numbering : HasNumbering size neighbours symmetric within OnCurve
  numbering = numbering_exists size neighbours symmetric within OnCurve (λ i j li lj. ((λ p. curve_by p.0 i j p.1), (λ q. path_by q.0 i j li lj q.1)))

  pub curves_found : (n : ℕ) × HasBoundaryCurves s c n
  curves_found = (
    h.count,
    record {
      arc = λ x. arc_at (least h.classes x);
      are_arcs = λ x l. at_arc (least h.classes x) (first x l).0;
      different = λ x y less l on. (let lx : x < h.count = omega arith in
          let same : x ≡ y = sym (first x lx).1 ∙ (h.numbered.together (least h.classes x) (least h.classes y) (first x lx).0 (first y l).0).1 on ∙ (first y l).1 in
          omega arith);
      all = λ a is. (let z = found a is in
          let x : ℕ = slice_index h.classes z.0 in
          let lx : slice_index h.classes z.0 < h.count = h.numbered.in_range z.0 z.1 in
          let f = first (slice_index h.classes z.0) lx in
          (x, lx, subst (AreOnOneCurve s c (arc_at (least h.classes (slice_index h.classes z.0)))) z.2 ((h.numbered.together (least h.classes (slice_index h.classes z.0)) z.0 f.0 z.1).0 f.1)));
    },
  )
    where
      h : HasNumbering size neighbours symmetric within OnCurve
      h = numbering

      first : (x : ℕ) → x < h.count → (least h.classes x < size) × (slice_index h.classes (least h.classes x) ≡ x)
      first x l = least_class size OnCurve h.classes h.count h.numbered x l

pub some_boundary_curves : SomeBoundaryCurves
some_boundary_curves s c k = curves_found s k c (classes_exist Directions s.rows k.table)
