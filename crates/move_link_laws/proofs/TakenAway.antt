-- The class of the core of a 4-1 move: its link is oriented by the parities of its four facets, and so it is a sphere.
use Rattle.std.proofs.Common.{◌≡◌, ◌≢◌, ℕ, ◌*◌, ◌<◌, ◌≤◌, Bool, true, false, List, [], ◌∷◌, length, Some, refl, sym, ap, ◌∙◌, subst, arith}
use Rattle.std.specs.Prelude.{◌==◌, ◌||◌, slice_index}
use Rattle.std.specs.List.{list_all}
use Rattle.std.proofs.lemmas.Bool.{eqb-true, eq-eqb}
use Rattle.table_definitions.specs.Lists.{has}
use Rattle.table_definitions.specs.Permutation.{image, preimage, inverse, is_odd}
use Rattle.table_definitions.specs.Table.{Gluing, Row, glue, IsTable}
use Rattle.table_definitions.specs.Classes.{IsNumbering}
use Rattle.table_definitions.specs.Places.{Place, carried, SameVertex}
use Rattle.table_definitions.proofs.ChainLaws.{joined_step, across_by}
use Rattle.table_definitions.proofs.Faces.{face_at}
use Rattle.table_definitions.proofs.Permutations.{image_below}
use Rattle.table_definitions.proofs.TableLaws.{glued_tet}
use Rattle.skeleton_definitions.specs.Links.{vertex_number, IsOrientableLink}
use Rattle.move_definitions.specs.Moves.{Move, Facet, IsMoved, IsCore, own_facet, vertex_of, vertices_by_label, inverse_move}
use Rattle.move_definitions.proofs.CoreTests.{on_cores, cores}
use Rattle.move_laws.proofs.Labels as Labels
use Rattle.move_laws.proofs.Labels.{AreLabels, HasLabel, label_at}
use Rattle.move_laws.proofs.Legal.{facet-four}
use Rattle.move_laws.proofs.LedBack.{inverses_lead_back_lem}
use Rattle.move_laws.proofs.SecondStand.{crossing}
use Rattle.move_laws.proofs.Parities.{behind}
use Rattle.move_link_laws.specs.Links.{TakenAwayAreSpheres, PutInAreSpheres}
use Rattle.move_link_laws.proofs.Labelled.{in_facet}
use Rattle.move_link_laws.proofs.Ties.{IsOld, is_old, one_facet}
use Rattle.move_link_laws.proofs.Buried.{Buried}
use Rattle.skeleton_laws.proofs.Spots.{class_of, IsSpot, one_class}
use Rattle.surface_laws.proofs.Vertices.{one_vertex}
use Rattle.move_link_laws.proofs.StarLabels.{off_one}
use Rattle.move_link_laws.proofs.FacetSteps.{FacetStep, facet_step}
use Rattle.move_link_laws.proofs.ListedSigns.{listed_at, signs_from}
use Rattle.move_link_laws.proofs.LoneLink.{lone_sphere}
use Rattle.move_link_laws.proofs.Lone.{of_class, at_label}
use Rattle.move_link_laws.proofs.Standard.{SphereNumbers}
use Rattle.move_link_laws.proofs.Certified.{sphere_from}

-- the vertex with label 0 is the first of the core
core_test : List ℕ → Bool
core_test core = preimage (inverse (vertices_by_label core)) 0 == slice_index core 0

core_tests : list_all core_test cores ≡ true
core_tests = unfold core_test inverse preimage in refl

core_first : (core : List ℕ) → IsCore core → preimage (inverse (vertices_by_label core)) 0 ≡ slice_index core 0
core_first core c = eqb-true (preimage (inverse (vertices_by_label core)) 0) (slice_index core 0) (unfold core_test in on_cores core_test core_tests core c)

module _ (old : List Row) (m : Move) (new : List Row) (table : IsTable old) (h : IsMoved old m new) where
  abbrev Old : ℕ → Facet → Type 0
  Old i f = IsOld old m new table h i f

  abbrev In : List ℕ → Place → Type 0
  In ls p = Buried old m new table h ls p

  own_old : length m.core ≡ 1 → Old 4 (own_facet m)
  own_old one = is_old old m new table h 4 (own_facet m) (omega arith) (omega arith) (facet-four old m)

  -- the core
  pub core_buried : length m.core ≡ 1 → In (0 ∷ []) (one_vertex m.tet (slice_index m.core 0))
  core_buried one =
      let a = own_old one in record {
        i = 4;
        f = own_facet m;
        old_is = a;
        small = (omega arith, tt);
        off = refl;
        all = λ j l. (let e : 0 ≡ j = omega arith in (λ i. eq-eqb 0 j e i || false));
        from = λ i. one_vertex m.tet (sym (core_first m.core h.core) i);
      }

  pub core_is_spot : length m.core ≡ 1 → IsSpot (length old) (one_vertex m.tet (slice_index m.core 0))
  core_is_spot one =
      let a = own_old one in record {
        v = slice_index m.core 0;
        is = refl;
        below = a.is.in_range;
        low = subst (λ v. v < 4) (core_first m.core h.core) (Labels.vertex_at 4 (own_facet m).labels a.is.labels 0 (omega arith) (omega arith)).small;
      }

  module _ (vs : List ℕ) (n : ℕ) (numbered : IsNumbering (4 * length old) (SameVertex old) vs n) (p0 : Place) (spot0 : IsSpot (length old) p0) (b0 : In (0 ∷ []) p0) (one : length m.core ≡ 1) where
    abbrev c : ℕ
    c = class_of vs p0

    buried : (p : Place) → IsSpot (length old) p → class_of vs p ≡ class_of vs p0 → In (0 ∷ []) p
    buried p s e = of_class old m new table h vs n numbered p0 spot0 b0 one p s e

    value : (p : Place) → IsSpot (length old) p → class_of vs p ≡ class_of vs p0 → Bool
    value p s e = let b = buried p s e in is_odd (crossing b.i 0 b.f.labels)

    value_is : (p : Place) (s : IsSpot (length old) p) (e : class_of vs p ≡ class_of vs p0) (q : Place) → p ≡ q → (b : In (0 ∷ []) q) → value p s e ≡ is_odd (crossing b.i 0 b.f.labels)
    unfolding value
    value_is p s e q d b =
        let a = buried p s e in
        let same = one_facet old m new table h a.i b.i a.f b.f a.old_is b.old_is (ap (λ (r : Place). r.tet) (sym a.from ∙ d ∙ b.from)) in
        λ i. is_odd (crossing (same.0 i) 0 (same.1 i).labels)

    one_value : (p q : Place) (s : IsSpot (length old) p) (t : IsSpot (length old) q) (e : class_of vs p ≡ class_of vs p0) (f : class_of vs q ≡ class_of vs p0) → p ≡ q → value p s e ≡ value q t f
    one_value p q s t e f d = value_is p s e q d (buried q t f) ∙ sym (value_is q t f q refl (buried q t f))

    module _ (t v f : ℕ) (g : Gluing) (lv : v < 4) (lf : f < 4) (ne : v ≡ f → ⊥) (own : slice_index vs (vertex_number t v) ≡ class_of vs p0) (glued : glue old (record { tet = t; face = f }) ≡ Some g) where
      spot_p : IsSpot (length old) (one_vertex t v)
      spot_p = record { v = v; is = refl; below = glued_tet old (record { tet = t; face = f }) g glued; low = lv }

      spot_p' : IsSpot (length old) (one_vertex g.tet (image g.perm v))
      spot_p' = record { v = image g.perm v; is = refl; below = table.in_range (face_at t f) g glued; low = image_below g.perm (table.permutes (face_at t f) g glued) v lv }

      own' : class_of vs (one_vertex g.tet (image g.perm v)) ≡ class_of vs p0
      own' = sym ((one_class old vs n numbered (one_vertex t v) (one_vertex g.tet (image g.perm v)) spot_p spot_p').1 (joined_step old (one_vertex t v) f (one_vertex g.tet (image g.perm v)) (across_by old (one_vertex t v) f g glued (off_one v f ne)))) ∙ own

      b : In (0 ∷ []) (one_vertex t v)
      b = buried (one_vertex t v) spot_p own

      label : HasLabel b.i b.f.labels f
      label = label_at b.i b.f.labels b.old_is.is.labels f lf

      abbrev k : ℕ
      k = image b.f.labels f

      v_is : v ≡ vertex_of b.f 0
      v_is = let e : v ∷ [] ≡ vertex_of b.f 0 ∷ [] = ap (λ (r : Place). r.vertices) b.from in cc

      low : 1 ≤ image b.f.labels f
      low = let nz : image b.f.labels f ≢ 0 = (λ e. ne (v_is ∙ ap (vertex_of b.f) (sym e) ∙ label.vertex)) in omega arith

      at_k : (a : Facet) × Old (image b.f.labels f) a
      at_k = at_label old m new table h vs n numbered p0 spot0 b0 one (image b.f.labels f) low label.small

      st : FacetStep old m new table h b.i (image b.f.labels f) b.f at_k.0 (0 ∷ [])
      st = facet_step old m new table h b.i (image b.f.labels f) b.f at_k.0 (0 ∷ []) b.old_is at_k.1 (λ z. label.present (sym z)) b.small b.off (off_one 0 (image b.f.labels f) (let l = low in omega arith))

      same : st.by ≡ g
      same = let here : Some st.by ≡ Some g = sym st.glued ∙ (λ z. glue old (face_at (sym b.from z).tet (label.vertex z))) ∙ glued in cc

      lands : one_vertex g.tet (image g.perm v) ≡ in_facet at_k.0 (0 ∷ [])
      lands = sym (sym st.lands ∙ (λ z. carried (same z) (sym b.from z)))

      b' : In (0 ∷ []) (in_facet at_k.0 (0 ∷ []))
      b' = record { i = image b.f.labels f; f = at_k.0; old_is = at_k.1; small = b.small; off = off_one 0 (image b.f.labels f) (let l = low in omega arith); all = b.all; from = refl }

      agrees : value (one_vertex g.tet (image g.perm v)) spot_p' own' ≡ behind (is_odd g.perm) (value (one_vertex t v) spot_p own)
      unfolding b'
      agrees =
          value_is (one_vertex g.tet (image g.perm v)) spot_p' own' (in_facet at_k.0 (0 ∷ [])) lands b'
          ∙ st.parity 0 (omega arith) ∙ (λ z. behind (is_odd (same z).perm) (is_odd (crossing b.i 0 b.f.labels))) ∙ ap (behind (is_odd g.perm)) (sym (value_is (one_vertex t v) spot_p own (one_vertex t v) refl b))

    pub lone_oriented : IsOrientableLink old vs (class_of vs p0)
    lone_oriented = signs_from old vs (class_of vs p0) numbered.one_each value one_value (λ t v f g lv lf ne own e.
        listed_at old vs (class_of vs p0) numbered.one_each value one_value (one_vertex g.tet (image g.perm v)) (spot_p' t v f g lv lf ne own e) (own' t v f g lv lf ne own e) ∙ agrees t v f g lv lf ne own e
        ∙ ap (behind (is_odd g.perm)) (sym (listed_at old vs (class_of vs p0) numbered.one_each value one_value (one_vertex t v) (spot_p t v f g lv lf ne own e) own)))

pub taken_away_are_spheres : TakenAwayAreSpheres
taken_away_are_spheres s m new c link k h (one, at) has =
    let p0 : Place = one_vertex m.tet (slice_index m.core 0) in
    let b0 = core_buried s.rows m new k.table h one in
    let s0 = core_is_spot s.rows m new k.table h one in
    sphere_from s c link has
    (subst (SphereNumbers s.rows s.vertices.classes has.directions) at (lone_sphere s.rows m new k.table h s.vertices.classes s.vertices.count k.vertices p0 s0 b0 one has.directions has.count has.numbered))
    (subst (IsOrientableLink s.rows s.vertices.classes) at (lone_oriented s.rows m new k.table h s.vertices.classes s.vertices.count k.vertices p0 s0 b0 one))

pub put_in_are_spheres : PutInAreSpheres
put_in_are_spheres s m s' c link k k' h taken has =
    let led = inverses_lead_back_lem s.rows m s'.rows k.table h in
    taken_away_are_spheres s' (inverse_move (length s.rows) m) led.0 c link k' led.1 taken has
