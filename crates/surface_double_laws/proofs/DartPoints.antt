-- The points at which a dart begins and ends: the next dart of its piece begins where it ends, and so does the dart
-- across its face. At each point a dart begins.
use Rattle.std.proofs.Common.{◌≡◌, ◌≢◌, ℕ, ◌+◌, ◌-◌, ◌*◌, ◌<◌, Bool, true, false, not, List, length, Option, Some, None, inl, inr, refl, sym, ap, ◌∙◌, subst, arith}
use Rattle.std.specs.Prelude.{◌==◌, slice_index}
use Rattle.std.proofs.lemmas.Bool.{cases_lt, eq-eqb, and_from}
use Rattle.table_definitions.specs.Permutation.{image}
use Rattle.table_definitions.specs.Table.{Gluing, Face, glue, other_side, inverse_gluing, same_face}
use Rattle.skeleton_definitions.specs.Skeleton.{Skeleton, IsSkeleton, IsValidClass}
use Rattle.surface_definitions.specs.Coordinates.{keeping}
use Rattle.surface_definitions.specs.declared.Coords.{Coords}
use Rattle.surface_definitions.specs.Pieces.{discs_of, Arc, arcs_around, arc_across}
use Rattle.surface_laws.specs.PieceLaws.{IsSurface, face_of_arc}
use Rattle.surface_laws.proofs.MeetingArcs.{arc_at}
use Rattle.surface_euler_laws.proofs.Four.{Four, first_two, middle_two, last_two, opposite, third, fourth, rest_four, one_of_rest}
use Rattle.surface_euler_laws.proofs.EdgeDirections.{IsEdge}
use Rattle.surface_euler_laws.proofs.Labels.{wide, wide_is, weights, point, point_back, IsPoint, is_point}
use Rattle.surface_euler_laws.proofs.ArcList.{IsArc, across_is_arc, across_back, glued_back}
use Rattle.surface_euler_laws.proofs.ArcEnds.{one_point}
use Rattle.surface_double_laws.proofs.PieceArcs.{tri, behind, type_of, arcs_are, none_behind, one_column}
use Rattle.surface_double_laws.proofs.Darts.{AreOriented, IsDart, first, last, dart_of, one_dart, dart_across}
use Rattle.surface_double_laws.proofs.DartSteps.{next, near_step, far_step, stays_or_leaves, placed, next_on}

-- the vertices seen from the other end of an edge
back_four : (v f u w : ℕ) → Four v f u w → Four u f v w
back_four v f u w four = middle_two u v f w (first_two v u f w (middle_two v f u w four))

kept_opposite : (v f u w : ℕ) → Four v f u w → keeping u f ≡ keeping v w
kept_opposite v f u w four = sym (opposite v w u f (middle_two v u w f (last_two v u f w (middle_two v f u w four))))

module _ (s : Skeleton) (k : IsSkeleton s) (valid : (c : ℕ) → c < s.edges.count → IsValidClass s c) (coords : Coords) (xs : List ℕ) (surface : IsSurface s.rows coords xs) (sign : ℕ → Bool) (signs : AreOriented s.rows coords xs sign) where
  abbrev OnSurface : Arc → Type 0
  OnSurface b = IsArc s.rows coords xs surface b

  abbrev Dart : Arc → ℕ → ℕ → Type 0
  Dart b u w = IsDart s.rows coords xs surface sign signs b u w

  abbrev after : Arc → Arc
  after b = next s.rows coords xs surface sign signs b

  abbrev from : Arc → ℕ
  from b = first s.rows coords xs surface sign signs b

  abbrev to : Arc → ℕ
  to b = last s.rows coords xs surface sign signs b

  abbrev label : ℕ → ℕ → ℕ → ℕ → ℕ
  label t v u j = point s k valid coords xs surface t v u j

  abbrev broad : ℕ → ℕ → ℕ → ℕ
  broad t v u = wide s k valid coords xs surface t v u

  abbrev Edge : ℕ → ℕ → ℕ → Type 0
  Edge t v u = IsEdge s k valid t v u

  -- the points where an arc begins and ends
  unfoldable pub start : Arc → ℕ
  start b = point s k valid coords xs surface b.tet b.vertex (first s.rows coords xs surface sign signs b) b.place

  pub stop : Arc → ℕ
  stop b = point s k valid coords xs surface b.tet b.vertex (last s.rows coords xs surface sign signs b) b.place

  start_is : (b : Arc) (u w : ℕ) → IsDart s.rows coords xs surface sign signs b u w → start b ≡ label b.tet b.vertex u b.place
  unfolding start
  start_is b u w d = ap (λ z. label b.tet b.vertex z b.place) (one_dart s.rows coords xs surface sign signs b (from b) (to b) u w (dart_of s.rows coords xs surface sign signs b d.on) d).0

  stop_is : (b : Arc) (u w : ℕ) → IsDart s.rows coords xs surface sign signs b u w → stop b ≡ label b.tet b.vertex w b.place
  unfolding stop
  stop_is b u w d = ap (λ z. label b.tet b.vertex z b.place) (one_dart s.rows coords xs surface sign signs b (from b) (to b) u w (dart_of s.rows coords xs surface sign signs b d.on) d).1

  pub edge_of : (t v f u w j : ℕ) → OnSurface (arc_at t f v j) → Four v f u w → IsEdge s k valid t v u
  edge_of t v f u w j x four = record { lt = x.in_range; lv = four.lv; lu = four.lf; ne = four.vf }

  -- the points of an edge are those of the arcs of a face at its ends
  pub broad_is : (t v f u w : ℕ) → t < length s.rows → Four v f u w → broad t v u ≡ arcs_around coords xs t f v + arcs_around coords xs t f u
  broad_is t v f u w lt four = wide_is s k valid coords xs surface t v u f w (record { lt = lt; lv = four.lv; lu = four.lf; ne = four.vf }) (middle_two v f u w four)

  pub inside : (t v f u w j : ℕ) → OnSurface (arc_at t f v j) → Four v f u w → j < broad t v u
  inside t v f u w j x four = let m = broad_is t v f u w x.in_range four in let l : j < arcs_around coords xs t f v = x.there in omega arith

  -- on an edge that its quads or octagons meet once
  pub broad_once : (t v f u w : ℕ) → t < length s.rows → Four v f u w → 0 < behind coords xs t (keeping v f) → type_of coords xs t (keeping v f) ≢ keeping v u
      → broad t v u ≡ tri coords xs t v + tri coords xs t u + behind coords xs t (keeping v f)
  broad_once t v f u w lt four some ne =
      let m = broad_is t v f u w lt four in
      let one = arcs_are s.rows coords xs surface t lt v f u w four in
      let two = arcs_are s.rows coords xs surface t lt u f v w (back_four v f u w four) in
      let other = ap (behind coords xs t) (kept_opposite v f u w four) in
      let none = none_behind s.rows coords xs surface t lt v f w u (last_two v f u w four) some ne in
      omega arith

  -- on an edge that its octagons meet twice
  pub broad_twice : (t v f u w : ℕ) → t < length s.rows → Four v f u w → 0 < behind coords xs t (keeping v f) → type_of coords xs t (keeping v f) ≡ keeping v u
      → broad t v u ≡ tri coords xs t v + tri coords xs t u + 2 * behind coords xs t (keeping v f)
  broad_twice t v f u w lt four some e =
      let m = broad_is t v f u w lt four in
      let one = arcs_are s.rows coords xs surface t lt v f u w four in
      let two = arcs_are s.rows coords xs surface t lt u f v w (back_four v f u w four) in
      let other = ap (behind coords xs t) (kept_opposite v f u w four) in
      let both = ap (slice_index xs) (one_column s.rows coords xs surface t lt v f w u (last_two v f u w four) some e) in
      omega arith

  -- ---- the next arc begins where an arc ends

  pub start_next : (b : Arc) → OnSurface b → start (after b) ≡ stop b
  start_next b x =
      let d = dart_of s.rows coords xs surface sign signs b x in
      elim (stays_or_leaves s.rows coords xs surface sign signs b.tet b.vertex b.face (from b) (to b) b.place (to b) d.four x) [
        | inl c ↦ (let r = near_step s.rows coords xs surface sign signs b.tet b.vertex b.face (from b) (to b) b.place d c in
            ap start r.next_is ∙ start_is (arc_at b.tet (from b) b.vertex b.place) (to b) b.face r.dart ∙ sym (stop_is b (from b) (to b) d))
        | inr h ↦ (let e = placed s.rows coords xs surface sign signs b (tri coords xs b.tet b.vertex + h.i) h.place in
            let d0 : Dart (arc_at b.tet b.face b.vertex (tri coords xs b.tet b.vertex + h.i)) (from b) (to b) = subst (λ z. Dart z (from b) (to b)) e d in
            let r = far_step s.rows coords xs surface sign signs b.tet b.vertex b.face (from b) (to b) h.i h.j d0 h.many h.separate in
            let many = h.many in
            let four : Four b.vertex b.face (to b) (from b) = last_two b.vertex b.face (from b) (to b) d.four in
            let m = broad_once b.tet b.vertex b.face (to b) (from b) x.in_range four (omega arith) h.separate in
            let place : broad b.tet b.vertex (to b) - 1 - (tri coords xs b.tet b.vertex + h.i) ≡ tri coords xs b.tet (to b) + h.j = omega arith in
            ap (λ z. start (after z)) e ∙ ap start r.next_is
            ∙ start_is (arc_at b.tet (from b) (to b) (tri coords xs b.tet (to b) + h.j)) b.vertex b.face r.dart
            ∙ sym (point_back s k valid coords xs surface b.tet b.vertex (to b) (tri coords xs b.tet b.vertex + h.i) (edge_of b.tet b.vertex b.face (to b) (from b) (tri coords xs b.tet b.vertex + h.i) d0.on four) (omega arith)
            ∙ ap (label b.tet (to b) b.vertex) place)
            ∙ sym (stop_is (arc_at b.tet b.face b.vertex (tri coords xs b.tet b.vertex + h.i)) (from b) (to b) d0) ∙ ap stop (sym e))
      ]

  -- ---- across a face

  flip_if : Arc → Option Gluing → Arc
  flip_if b None = b
  flip_if b (Some g) = arc_across g b

  -- the arc across the gluing of its face
  pub flip : Arc → Arc
  flip b = flip_if b (glue s.rows (face_of_arc b))

  pub flip_is : (b : Arc) (g : Gluing) → glue s.rows (face_of_arc b) ≡ Some g → flip b ≡ arc_across g b
  unfolding flip flip_if
  flip_is b g e = ap (flip_if b) e

  module _ (closed : (b : Arc) → IsArc s.rows coords xs surface b → (g : Gluing) × (glue s.rows (face_of_arc b) ≡ Some g)) where
    pub flip_on : (b : Arc) → OnSurface b → OnSurface (flip b)
    flip_on b x = let g = closed b x in subst (λ z. OnSurface z) (sym (flip_is b g.0 g.1)) (across_is_arc s.rows coords xs surface b g.0 x g.1)

    pub flip_twice : (b : Arc) → OnSurface b → flip (flip b) ≡ b
    flip_twice b x =
        let g = closed b x in
        ap flip (flip_is b g.0 g.1) ∙ flip_is (arc_across g.0 b) (inverse_gluing (face_of_arc b) g.0) (glued_back s.rows coords xs surface b g.0 x g.1) ∙ across_back s.rows coords xs surface b g.0 x g.1

    pub flip_apart : (b : Arc) → OnSurface b → face_of_arc (flip b) ≢ face_of_arc b
    flip_apart b x e =
        let g = closed b x in
        let y : Face = face_of_arc b in
        let same : other_side (face_of_arc b) g.0 ≡ face_of_arc b = ap (λ (z : Arc). face_of_arc z) (sym (flip_is b g.0 g.1)) ∙ e in
        let t : same_face (face_of_arc b) (face_of_arc b) ≡ true = and_from (b.tet == b.tet) (b.face == b.face) (eq-eqb b.tet b.tet refl) (eq-eqb b.face b.face refl) in
        let u : not (same_face (other_side (face_of_arc b) g.0) (face_of_arc b)) ≡ true = (surface.table).separate (face_of_arc b) g.0 g.1 in
        let z : false ≡ true = sym (ap not (ap (λ (q : Face). same_face q (face_of_arc b)) same ∙ t)) ∙ u in
        cc

    pub start_flip : (b : Arc) → OnSurface b → start (flip b) ≡ stop b
    start_flip b x =
        let g = closed b x in
        let d = dart_of s.rows coords xs surface sign signs b x in
        ap start (flip_is b g.0 g.1)
        ∙ start_is (arc_across g.0 b) (image (g.0).perm (to b)) (image (g.0).perm (from b)) (dart_across s.rows coords xs surface sign signs b g.0 (from b) (to b) d g.1)
        ∙ sym (one_point s k valid coords xs surface b g.0 (to b) (from b) x g.1 (last_two b.vertex b.face (from b) (to b) d.four))
        ∙ sym (stop_is b (from b) (to b) d)

    pub stop_flip : (b : Arc) → OnSurface b → stop (flip b) ≡ start b
    stop_flip b x = sym (start_flip (flip b) (flip_on b x)) ∙ ap start (flip_twice b x)

    -- ---- each point has a dart

    pub record HasDart (x : ℕ) : Type 0 where
      pub b : Arc
      pub on : IsArc s.rows coords xs surface b
      pub begins : start b ≡ x

    begin_at : (b : Arc) (u w : ℕ) → OnSurface b → Four b.vertex b.face u w → HasDart (label b.tet b.vertex u b.place)
    begin_at b u w x four =
        let d = dart_of s.rows coords xs surface sign signs b x in
        elim (one_of_rest b.vertex b.face (from b) (to b) u d.four four.lf (λ q. four.vf (sym q)) (λ q. four.uf (sym q))) [
          | inl e ↦ record { b = b; on = x; begins = start_is b (from b) (to b) d ∙ ap (λ z. label b.tet b.vertex z b.place) (sym e) }
          | inr e ↦ record { b = after b; on = next_on s.rows coords xs surface sign signs b x; begins = start_next b x ∙ stop_is b (from b) (to b) d ∙ ap (λ z. label b.tet b.vertex z b.place) (sym e) }
        ]

    pub has_dart : (x : ℕ) → x < length (discs_of (weights s k valid coords xs surface)) → HasDart x
    has_dart x l =
        let p : IsPoint s k valid coords xs surface x = is_point s k valid coords xs surface x l in
        let e = p.edge in
        let f : ℕ = third p.v p.u in
        let w : ℕ = fourth p.v p.u in
        let r : Four p.v p.u (third p.v p.u) (fourth p.v p.u) = rest_four p.v p.u e.lv e.lu e.ne in
        let four : Four p.v (third p.v p.u) p.u (fourth p.v p.u) = middle_two p.v p.u f w r in
        let back : Four p.u (third p.v p.u) p.v (fourth p.v p.u) = middle_two p.u p.v f w (first_two p.v p.u f w r) in
        let m = broad_is p.t p.v (third p.v p.u) p.u (fourth p.v p.u) e.lt four in
        let low = p.inside in
        elim (cases_lt p.j (arcs_around coords xs p.t (third p.v p.u) p.v)) [
          | inl h ↦ subst HasDart p.is (begin_at (arc_at p.t f p.v p.j) p.u w (record { in_range = e.lt; face = four.lu; is_vertex = e.lv; off = four.vu; there = h }) four)
          | inr h ↦ (let i : ℕ = broad p.t p.v p.u - 1 - p.j in
              subst HasDart (sym (point_back s k valid coords xs surface p.t p.v p.u p.j e low) ∙ p.is)
              (begin_at (arc_at p.t f p.u i) p.v w (record { in_range = e.lt; face = back.lu; is_vertex = e.lu; off = back.vu; there = omega arith }) back))
        ]
