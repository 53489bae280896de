-- The rows that result from a move on a table are a table, if they are within the limit of tetrahedra.
use Rattle.std.proofs.Common.{◌≡◌, ℕ, ◌+◌, ◌<◌, Bool, true, List, length, Option, Some, None, refl, sym, ap, ◌∙◌, subst, arith, inl, inr}
use Rattle.std.specs.Prelude.{◌⊎◌, ◌==◌, ◌||◌, ◌≢◌, option_map, option_and_then}
use Rattle.std.specs.List.{list_all}
use Rattle.basic_lemmas.proofs.Numbers.{given_apart}
use Rattle.table_definitions.specs.Lists.{below, same_list, substitute}
use Rattle.table_definitions.specs.Permutation.{IsPermutationOfFour, image, preimage, inverse, compose}
use Rattle.table_definitions.specs.Table.{Gluing, Row, Face, glue, other_side, inverse_gluing, same_face, IsTable}
use Rattle.table_definitions.specs.Relabelling.{AreIsomorphic, face_under, gluing_under}
use Rattle.table_definitions.proofs.TableLaws.{glued_tet, glued_face}
use Rattle.move_definitions.specs.Moves.{Move, opposite, kept, new_length, new_facet, place_after, moved_gluing, inverse_move, IsMoved}
use Rattle.move_definitions.specs.Laws.{MovesMakeTables, InversesLeadOnlyBack}
use Rattle.table_definitions.proofs.ListFacts.{list_all-below, same_list-true}
use Rattle.table_definitions.proofs.Permutations.{image_below, image-inverse, inverse_permutes, preimage-image, compose_permutes}
use Rattle.table_definitions.proofs.Carried.{IsGood, not_from, same_from, carried_back as backwards}
use Rattle.table_definitions.proofs.InPlace.{in_place-same}
use Rattle.move_definitions.proofs.CoreTests.{core_size}
use Rattle.table_definitions.proofs.Faces.{same_face-itself, face_at, gluing_to}
use Rattle.move_laws.proofs.Labels.{ascending, new_labels, HasVertex, vertex_at, length-labels, image-map}
use Rattle.move_laws.proofs.Legal.{HasNoFault, no_fault}
use Rattle.move_laws.proofs.Covered.{StandsForOld, IsInner, covered}
use Rattle.move_laws.proofs.Renamed.{across}
use Rattle.move_laws.proofs.SecondStand.{other_stands}
use Rattle.move_laws.proofs.LedBack.{across_permutes, over_there, inverses_lead_back_lem}
use Rattle.move_laws.proofs.Shapes.{IsKeptFace, IsFacetFace, shape, stands_for_one, stand_permutes, stand_in_range}
use Rattle.move_laws.proofs.Agreement.{moves_agree_lem}

-- between new facets

back_test : ℕ → ℕ → Bool
back_test j l = (j == l) || same_list (across l j) (inverse (across j l))

across_back : (j l : ℕ) → j < 5 → l < 5 → j ≢ l → across l j ≡ inverse (across j l)
across_back j l hj hl d =
    same_list-true (across l j) (inverse (across j l)) (given_apart j l (same_list (across l j) (inverse (across j l))) (unfold back_test in list_all-below (back_test j) 5 (list_all-below (λ j. list_all (back_test j) (below 5)) 5 tests j hj) l hl) d)
  where
    tests : list_all (λ j. list_all (back_test j) (below 5)) (below 5) ≡ true
    tests = unfold back_test inverse preimage in refl

across_vertex : (j l : ℕ) → j < 5 → l < 5 → j ≢ l → image (across j l) (preimage (ascending j) l) ≡ preimage (ascending l) j
across_vertex j l hj hl d =
    let v : HasVertex (ascending j) l = vertex_at j (ascending j) (new_labels j hj) l hl (λ e. d (sym e)) in
    image-map (λ q. preimage (ascending l) (substitute l j q)) (ascending j) (preimage (ascending j) l) (rw (length-labels j (ascending j) (new_labels j hj)) v.small)
    ∙ ap (λ q. preimage (ascending l) (substitute l j q)) v.label
    ∙ ap (preimage (ascending l)) (in_place-same l j l refl)

good_inner : (old : List Row) (m : Move) (new : List Row) → IsMoved old m new → (j l : ℕ) → j < length m.core → l < length m.core → j ≢ l → IsGood (length new) new (opposite (new_facet old m j) l) (record { tet = kept old m + l; perm = across j l })
good_inner old m new h j l hj hl d = record {
  permutes = across_permutes j l sj sl d;
  in_range = rw h.length_is (omega arith);
  separate = not_from (same_face (other_side y g) y) (λ t. d (apart_tets (same_from (kept old m + l) (kept old m + j) (image (across j l) (preimage (ascending j) l)) (preimage (ascending j) l) t).0));
  leads_back = ap (glue new) over ∙ h.inner l j hl hj (λ e. d (sym e)) ∙ ap (λ (p : List ℕ). Some (gluing_to (kept old m + j) p)) (across_back j l sj sl d);
}
  where
    y : Face
    y = opposite (new_facet old m j) l

    g : Gluing
    g = gluing_to (kept old m + l) (across j l)

    sj : j < 5
    sj = let limited : length m.core < 5 = (core_size m.core h.core).1 in omega arith

    sl : l < 5
    sl = let limited : length m.core < 5 = (core_size m.core h.core).1 in omega arith

    over : other_side y g ≡ opposite (new_facet old m l) j
    over = ap (face_at (kept old m + l)) (across_vertex j l sj sl d)

    apart_tets : kept old m + l ≡ kept old m + j → j ≡ l
    apart_tets e = omega arith

-- the other faces

-- the gluing that replaces the gluing g of x
good_outer : (old : List Row) (m : Move) (new : List Row) → IsTable old → IsMoved old m new → (x : Face) (s g r : Gluing) → x.tet < length old → x.face < 4 → place_after old m x ≡ Some s → glue old x ≡ Some g → place_after old m (other_side x g) ≡ Some r
    → IsGood (length new) new (face_under s x) (gluing_under s r g)
good_outer old m new table h x s g r lt lf occurs glued occurs' = record {
  permutes = compose_permutes r.perm (compose g.perm (inverse s.perm)) hr (compose_permutes g.perm (inverse s.perm) hg (inverse_permutes s.perm hs));
  in_range = rw h.length_is range.0;
  separate = not_from (same_face (other_side z g') z) never;
  leads_back = ap (glue new) over ∙ h.outer y r yt yf occurs' ∙ ap (option_and_then (moved_gluing old m y r)) (table.leads_back x g glued) ∙ ap (option_map (λ q. gluing_under r q (inverse_gluing x g))) back
      ∙ ap (λ (p : List ℕ). Some (gluing_to s.tet p)) (backwards s.perm r.perm g.perm hs hr hg);
}
  where
    f : HasNoFault old m
    f = no_fault old m h.legal

    hg : IsPermutationOfFour g.perm
    hg = table.permutes x g glued

    y : Face
    y = other_side x g

    yt : y.tet < length old
    yt = table.in_range x g glued

    yf : y.face < 4
    yf = image_below g.perm hg x.face lf

    hs : IsPermutationOfFour s.perm
    hs = stand_permutes old m table f h.core x s lt lf occurs

    hr : IsPermutationOfFour r.perm
    hr = stand_permutes old m table f h.core y r yt yf occurs'

    range : (r.tet < new_length old m) × (image r.perm y.face < 4)
    range = stand_in_range old m table f h.core y r yt yf occurs'

    z : Face
    z = face_under s x

    g' : Gluing
    g' = gluing_under s r g

    over : other_side z g' ≡ face_under r y
    over = over_there x s r g hs hr hg lf

    home : other_side y (inverse_gluing x g) ≡ x
    home = ap (face_at x.tet) (image-inverse g.perm (image g.perm x.face) yf ∙ preimage-image g.perm hg x.face lf)

    back : place_after old m (other_side y (inverse_gluing x g)) ≡ Some s
    back = ap (place_after old m) home ∙ occurs

    never : same_face (other_side z g') z ≡ true → ⊥
    never t =
        let q = same_from r.tet s.tet (image g'.perm (image s.perm x.face)) (image s.perm x.face) t in
        let faces : face_under r y ≡ face_under s x = sym over ∙ ap (λ u. face_at u (image g'.perm (image s.perm x.face))) q.0 ∙ ap (face_at s.tet) q.1 in
        let same : y ≡ x = stands_for_one old m table f h.core y x (face_under r y) r s yt lt (shape old m table f h.core y r yt yf occurs') (subst (λ (w : Face). IsKeptFace old m x w s ⊎ IsFacetFace old m x w s) (sym faces) (shape old m table f h.core x s lt lf occurs)) in
        let whole : same_face (other_side x g) x ≡ true = ap (λ (w : Face). same_face w x) same ∙ same_face-itself x in
        let separate = table.separate x g glued in
        cc

good_at : (old : List Row) (m : Move) (new : List Row) → IsTable old → IsMoved old m new → (y : Face) (g' : Gluing) → glue new y ≡ Some g' → StandsForOld old m y ⊎ IsInner old m y → IsGood (length new) new y g'
good_at old m new table h y g' e (inr n) =
    let inner : Some (record { tet = kept old m + n.l; perm = across n.j n.l }) ≡ Some g' = sym (h.inner n.j n.l n.j_small n.l_small n.separate) ∙ ap (glue new) n.is ∙ e in
    let is : record { tet = kept old m + n.l; perm = across n.j n.l } ≡ g' = cc in
    subst (λ (z : Face). IsGood (length new) new z g') n.is (subst (λ (g : Gluing). IsGood (length new) new (opposite (new_facet old m n.j) n.l) g) is (good_inner old m new h n.j n.l n.j_small n.l_small n.separate))
good_at old m new table h y g' e (inl o) = subst (λ (z : Face). IsGood (length new) new z g') o.is (by_gluing (glue old o.old) refl)
  where
    moved : option_and_then (moved_gluing old m o.old o.by) (glue old o.old) ≡ Some g'
    moved = sym (h.outer o.old o.by o.tet o.face o.occurs) ∙ ap (glue new) o.is ∙ e

    by_gluing : (q : Option Gluing) → glue old o.old ≡ q → IsGood (length new) new (face_under o.by o.old) g'
    by_gluing None f = absurd (let none : None ≡ Some g' = sym (ap (option_and_then (moved_gluing old m o.old o.by)) f) ∙ moved in cc)
    by_gluing (Some g) f =
        let there : (r : Gluing) × (place_after old m (other_side o.old g) ≡ Some r) = other_stands old m table (no_fault old m h.legal) h.core o.old o.by g o.face o.occurs f in
        let made : Some (gluing_under o.by there.0 g) ≡ Some g' = sym (ap (option_map (λ r. gluing_under o.by r g)) there.1) ∙ sym (ap (option_and_then (moved_gluing old m o.old o.by)) f) ∙ moved in
        let is : gluing_under o.by there.0 g ≡ g' = cc in
        subst (λ (k : Gluing). IsGood (length new) new (face_under o.by o.old) k) is (good_outer old m new table h o.old o.by g there.0 o.tet o.face o.occurs f there.1)

pub moves_make_tables_lem : MovesMakeTables
moves_make_tables_lem old m new table limited h = record {
  limited = limited;
  four_faces = h.four_faces;
  permutes = λ y g e. (good y g e).permutes;
  in_range = λ y g e. (good y g e).in_range;
  separate = λ y g e. (good y g e).separate;
  leads_back = λ y g e. (good y g e).leads_back;
}
  where
    good : (y : Face) (g : Gluing) → glue new y ≡ Some g → IsGood (length new) new y g
    good y g e = good_at old m new table h y g e (covered old m y table (no_fault old m h.legal) h.core (rw (← h.length_is) (glued_tet new y g e)) (glued_face new y g h.four_faces e))

-- the inverse move results in nothing but a relabelling of the old table
pub inverses_lead_only_back_lem : InversesLeadOnlyBack
inverses_lead_only_back_lem old m new back table limited h h' =
    let led : (found : List Row) × IsMoved new (inverse_move (length old) m) found × AreIsomorphic old found = inverses_lead_back_lem old m new table h in
    let same : led.0 ≡ back = moves_agree_lem new (inverse_move (length old) m) led.0 back (moves_make_tables_lem old m new table limited h) led.1 h' in
    subst (λ (rows : List Row). AreIsomorphic old rows) same led.2
