-- Turning around a point, from a dart across its face to the next dart there, reaches all darts that begin at the
-- point, since the tetrahedra around an edge are joined.
use Rattle.std.proofs.Common.{◌≡◌, ◌≢◌, ℕ, ◌+◌, ◌-◌, ◌<◌, Bool, true, false, List, [], ◌∷◌, map, Some, ◌⊎◌, inl, inr, refl, sym, ap, ◌∙◌, subst, subst₂, arith}
use Rattle.std.specs.Prelude.{slice_index}
use Rattle.table_definitions.specs.Permutation.{image}
use Rattle.table_definitions.specs.Places.{Place, across, carried, IsJoined}
use Rattle.table_definitions.specs.Table.{Gluing, glue}
use Rattle.table_definitions.proofs.ChainLaws.{Steps, steps_across, face_crossed, kept_along}
use Rattle.table_definitions.proofs.Faces.{face_at}
use Rattle.table_definitions.proofs.Listed.{among_has}
use Rattle.table_definitions.proofs.PermutationLaws.{image_below, images_apart}
use Rattle.table_definitions.proofs.TableLaws.{Among}
use Rattle.surface_laws.proofs.Glued.{IsGlued, glued_is}
use Rattle.skeleton_definitions.specs.Skeleton.{Skeleton, IsSkeleton, IsValidClass}
use Rattle.skeleton_class_laws.specs.Crossings.{pair}
use Rattle.surface_definitions.specs.declared.Coords.{Coords}
use Rattle.surface_definitions.specs.Pieces.{Arc, arc_across}
use Rattle.surface_laws.specs.PieceLaws.{IsSurface, face_of_arc}
use Rattle.surface_laws.proofs.MeetingArcs.{arc_at}
use Rattle.surface_euler_laws.proofs.Four.{middle_two, last_two, one_of_rest}
use Rattle.surface_euler_laws.proofs.EdgeDirections.{IsEdge}
use Rattle.surface_euler_laws.proofs.Labels.{wide, wide_is, wide_back, wide_across, points_meet}
use Rattle.surface_euler_laws.proofs.ArcList.{IsArc, edge_across}
use Rattle.surface_double_laws.proofs.PieceArcs.{tri}
use Rattle.surface_double_laws.proofs.Darts.{AreOriented, IsDart, first, last, dart_of, dart_across}
use Rattle.surface_double_laws.proofs.DartSteps.{next, near_step, far_step, near_before, far_before, stays_or_leaves}
use Rattle.surface_double_laws.proofs.DartPoints.{broad_once, start, edge_of, inside, flip, flip_is, flip_on, flip_twice}
use Rattle.surface_double_laws.proofs.DartCorners.{same_start, one_start}

module _ (s : Skeleton) (k : IsSkeleton s) (valid : (c : ℕ) → c < s.edges.count → IsValidClass s c) (coords : Coords) (xs : List ℕ) (surface : IsSurface s.rows coords xs) (sign : ℕ → Bool) (signs : AreOriented s.rows coords xs sign)
    (closed : (b : Arc) → IsArc s.rows coords xs surface b → (g : Gluing) × (glue s.rows (face_of_arc b) ≡ Some g)) where
  abbrev OnSurface : Arc → Type 0
  OnSurface b = IsArc s.rows coords xs surface b

  abbrev Dart : Arc → ℕ → ℕ → Type 0
  Dart b u w = IsDart s.rows coords xs surface sign signs b u w

  abbrev broad : ℕ → ℕ → ℕ → ℕ
  broad t v u = wide s k valid coords xs surface t v u

  abbrev after : Arc → Arc
  after b = next s.rows coords xs surface sign signs b

  abbrev from : Arc → ℕ
  from b = first s.rows coords xs surface sign signs b

  abbrev to : Arc → ℕ
  to b = last s.rows coords xs surface sign signs b

  abbrev over : Arc → Arc
  over b = flip s k valid coords xs surface sign signs b

  module _ (h : Arc → Bool) (even : (b : Arc) → IsArc s.rows coords xs surface b → h (next s.rows coords xs surface sign signs (flip s k valid coords xs surface sign signs b)) ≡ h b) where
    -- a dart of this truth value that begins at the point with index j on the edge from v to u
    record Begins (t v u j : ℕ) (c : Bool) : Type 0 where
      f : ℕ
      w : ℕ
      dart : IsDart s.rows coords xs surface sign signs (arc_at t f v j) u w
      value : h (arc_at t f v j) ≡ c

    abbrev EitherEnd : ℕ → ℕ → ℕ → ℕ → Bool → Type 0
    EitherEnd t v u j c = Begins t v u j c ⊎ ((i : ℕ) × Begins t u v i c × (j + i + 1 ≡ broad t v u))

    at_index : (t v f u w j i : ℕ) → Dart (arc_at t f v j) u w → j ≡ tri coords xs t v + i → Dart (arc_at t f v (tri coords xs t v + i)) u w
    at_index t v f u w j i d e = subst (λ z. Dart (arc_at t f v z) u w) e d

    next_begins : (t v f u w j : ℕ) (c : Bool) → Dart (arc_at t f v j) u w → h (after (arc_at t f v j)) ≡ c → EitherEnd t v w j c
    next_begins t v f u w j c d e = elim (stays_or_leaves s.rows coords xs surface sign signs t v f u w j w d.four d.on) [
      | inl l ↦ (let r = near_step s.rows coords xs surface sign signs t v f u w j d l in
          inl (record { f = u; w = f; dart = r.dart; value = ap h (sym r.next_is) ∙ e }))
      | inr q ↦ (let place = q.place in
          let many = q.many in
          let r = far_step s.rows coords xs surface sign signs t v f u w q.i q.j (at_index t v f u w j q.i d q.place) q.many q.separate in
          let x = d.on in
          let m = broad_once s k valid coords xs surface sign signs t v f w u x.in_range (last_two v f u w d.four) (omega arith) q.separate in
          inr (tri coords xs t w + q.j, record { f = u; w = f; dart = r.dart; value = ap h (sym (ap (λ z. after (arc_at t f v z)) q.place ∙ r.next_is)) ∙ e }, omega arith))
    ]

    -- across the face of the dart
    crossed_one : (t v f u w j : ℕ) (c : Bool) (g : Gluing) → Dart (arc_at t f v j) u w → h (arc_at t f v j) ≡ c → glue s.rows (face_at t f) ≡ Some g → EitherEnd g.tet (image g.perm v) (image g.perm u) j c
    crossed_one t v f u w j c g d value e =
        let b : Arc = arc_at t f v j in
        next_begins g.tet (image g.perm v) (image g.perm f) (image g.perm w) (image g.perm u) j c (dart_across s.rows coords xs surface sign signs (arc_at t f v j) g u w d e)
        (sym (ap (λ z. h (after z)) (flip_is s k valid coords xs surface sign signs (arc_at t f v j) g e)) ∙ even (arc_at t f v j) d.on ∙ value)

    -- the dart across the face of the arc before it
    before : (y : Arc) (g : Gluing) (c : Bool) → OnSurface y → glue s.rows (face_of_arc y) ≡ Some g → h (after y) ≡ c → h (arc_across g y) ≡ c
    before y g c x e value = ap h (sym (flip_is s k valid coords xs surface sign signs y g e)) ∙ sym (even (over y) (flip_on s k valid coords xs surface sign signs closed y x)) ∙ ap (λ z. h (after z)) (flip_twice s k valid coords xs surface sign signs closed y x) ∙ value

    crossed_two : (t v f u w j : ℕ) (c : Bool) (g : Gluing) → Dart (arc_at t f v j) u w → h (arc_at t f v j) ≡ c → glue s.rows (face_at t w) ≡ Some g
        → broad t v u ≡ broad g.tet (image g.perm v) (image g.perm u) → EitherEnd g.tet (image g.perm v) (image g.perm u) j c
    crossed_two t v f u w j c g d value e wide_same = elim (stays_or_leaves s.rows coords xs surface sign signs t v f u w j u d.four d.on) [
      | inl l ↦ (let r = near_before s.rows coords xs surface sign signs t v f u w j d l in
          inl (record {
            f = image g.perm w;
            w = image g.perm f;
            dart = dart_across s.rows coords xs surface sign signs (arc_at t w v j) g f u r.0 e;
            value = before (arc_at t w v j) g c (r.0).on e (ap h (r.1).next_is ∙ value);
          }))
      | inr q ↦ (let place = q.place in
          let many = q.many in
          let r = far_before s.rows coords xs surface sign signs t v f u w q.i q.j (at_index t v f u w j q.i d q.place) q.many q.separate in
          let x = d.on in
          let m = broad_once s k valid coords xs surface sign signs t v f u w x.in_range d.four (omega arith) q.separate in
          inr (
            tri coords xs t u + q.j,
            record {
              f = image g.perm w;
              w = image g.perm f;
              dart = dart_across s.rows coords xs surface sign signs (arc_at t w u (tri coords xs t u + q.j)) g f v r.0 e;
              value = before (arc_at t w u (tri coords xs t u + q.j)) g c (r.0).on e (ap h ((r.1).next_is ∙ ap (arc_at t f v) (sym q.place)) ∙ value);
            },
            omega arith,
          ))
    ]

    -- across any face that has the edge
    crossed : (t v u j : ℕ) (c : Bool) (y : ℕ) (g : Gluing) → Begins t v u j c → y < 4 → y ≢ v → y ≢ u → glue s.rows (face_at t y) ≡ Some g
        → broad t v u ≡ broad g.tet (image g.perm v) (image g.perm u) → EitherEnd g.tet (image g.perm v) (image g.perm u) j c
    crossed t v u j c y g b ly nv nu e wide_same =
        let d = b.dart in
        elim (one_of_rest v u b.f b.w y (middle_two v b.f u b.w d.four) ly nv nu) [
          | inl q ↦ crossed_one t v b.f u b.w j c g b.dart b.value (ap (λ z. glue s.rows (face_at t z)) (sym q) ∙ e)
          | inr q ↦ crossed_two t v b.f u b.w j c g b.dart b.value (ap (λ z. glue s.rows (face_at t z)) (sym q) ∙ e) wide_same
        ]

    -- a dart at the point with index j on an edge, or with index i from its other end
    record Around (m i j : ℕ) (c : Bool) (p : Place) : Type 0 where
      v : ℕ
      u : ℕ
      is : p.vertices ≡ v ∷ u ∷ []
      edge : IsEdge s k valid p.tet v u
      width : wide s k valid coords xs surface p.tet v u ≡ m
      at : Begins p.tet v u j c ⊎ Begins p.tet u v i c

    carried_on : (m i j : ℕ) (c : Bool) → i + j + 1 ≡ m → (p : Place) (y : ℕ) (q : Place) → Around m i j c p → across s.rows p y ≡ Some q → Around m i j c q
    carried_on m i j c sum p y q r e =
        let x : Steps s.rows p y q = steps_across s.rows p y q e in
        let ly : y < 4 = face_crossed s.rows p y q k.table e in
        let g : Gluing = x.gluing in
        let a = r.edge in
        let nv : y ≢ r.v = λ z. off_first x z in
        let nu : y ≢ r.u = λ z. off_second x z in
        let there : IsEdge s k valid (x.gluing).tet (image (x.gluing).perm r.v) (image (x.gluing).perm r.u) = edge_there x in
        let same : broad p.tet r.v r.u ≡ broad (x.gluing).tet (image (x.gluing).perm r.v) (image (x.gluing).perm r.u) =
        wide_across s k valid coords xs surface p.tet r.v r.u (x.gluing).tet (image (x.gluing).perm r.v) (image (x.gluing).perm r.u) r.edge there
        (edge_across s.rows coords xs surface p.tet y (x.gluing) r.v r.u x.glued (λ z. nv (sym z)) (λ z. nu (sym z))) in
        let back : broad p.tet r.u r.v ≡ broad (x.gluing).tet (image (x.gluing).perm r.u) (image (x.gluing).perm r.v) =
        wide_back s k valid coords xs surface p.tet r.v r.u r.edge ∙ same ∙ sym (wide_back s k valid coords xs surface (x.gluing).tet (image (x.gluing).perm r.v) (image (x.gluing).perm r.u) there) in
        let wide_there : broad (x.gluing).tet (image (x.gluing).perm r.v) (image (x.gluing).perm r.u) ≡ m = sym same ∙ r.width in
        let wide_back_there : broad (x.gluing).tet (image (x.gluing).perm r.u) (image (x.gluing).perm r.v) ≡ m = wide_back s k valid coords xs surface (x.gluing).tet (image (x.gluing).perm r.v) (image (x.gluing).perm r.u) there ∙ wide_there in
        let on : Around m i j c (carried (x.gluing) p) = record {
          v = image (x.gluing).perm r.v;
          u = image (x.gluing).perm r.u;
          is = ap (map (image (x.gluing).perm)) r.is;
          edge = there;
          width = wide_there;
          at = elim r.at [
            | inl b ↦ elim (crossed p.tet r.v r.u j c y (x.gluing) b ly nv nu x.glued same) [
              | inl z ↦ inl z
              | inr z ↦ inr (subst (λ t. Begins (x.gluing).tet (image (x.gluing).perm r.u) (image (x.gluing).perm r.v) t c) (let e = z.2 in let w : z.0 ≡ i = omega arith in w) z.1)
            ]
            | inr b ↦ elim (crossed p.tet r.u r.v i c y (x.gluing) b ly nu nv x.glued back) [
              | inl z ↦ inr z
              | inr z ↦ inl (subst (λ t. Begins (x.gluing).tet (image (x.gluing).perm r.v) (image (x.gluing).perm r.u) t c) (let e = z.2 in let w : z.0 ≡ j = omega arith in w) z.1)
            ]
          ];
        } in
        subst (Around m i j c) (sym x.lands) on
      where
        off_first : (x : Steps s.rows p y q) → y ≡ r.v → ⊥
        off_first x z = let both : true ≡ false = sym (among_has p.vertices y (subst (λ (vs : List ℕ). Among y vs) (sym r.is) (inl z))) ∙ x.off in cc

        off_second : (x : Steps s.rows p y q) → y ≡ r.u → ⊥
        off_second x z = let both : true ≡ false = sym (among_has p.vertices y (subst (λ (vs : List ℕ). Among y vs) (sym r.is) (inr (inl z)))) ∙ x.off in cc

        edge_there : (x : Steps s.rows p y q) → IsEdge s k valid (x.gluing).tet (image (x.gluing).perm r.v) (image (x.gluing).perm r.u)
        edge_there x =
            let i : IsGlued s.rows (face_at p.tet y) (x.gluing) = glued_is s.rows (face_at p.tet y) (x.gluing) k.table x.glued in
            let a = r.edge in
            record { lt = i.other_tet; lv = image_below (x.gluing).perm r.v i.permutes a.lv; lu = image_below (x.gluing).perm r.u i.permutes a.lu; ne = images_apart (x.gluing).perm r.v r.u i.permutes a.lv a.lu a.ne }

    -- the corner at which a chain of crossings ends
    corner_of : (m i j : ℕ) (c : Bool) (t v u : ℕ) → Around m i j c (pair t v u) → (broad t v u ≡ m) × (Begins t v u j c ⊎ Begins t u v i c)
    corner_of m i j c t v u r =
        let rv : r.v ≡ v = ap (λ vs. slice_index vs 0) (sym r.is) in
        let ru : r.u ≡ u = ap (λ vs. slice_index vs 1) (sym r.is) in
        (subst₂ (λ a b. broad t a b ≡ m) rv ru r.width, subst₂ (λ a b. Begins t a b j c ⊎ Begins t b a i c) rv ru r.at)

    -- the dart that begins there is the one that was reached
    arrive : (m i j : ℕ) (c : Bool) (t v f u w p : ℕ) → Dart (arc_at t f v p) u w → broad t v u ≡ m → i + j + 1 ≡ m → j ≡ p → Begins t v u j c ⊎ Begins t u v i c → c ≡ h (arc_at t f v p)
    arrive m i j c t v f u w p d wide_is sum q (inl y) =
        let moved : Dart (arc_at t y.f v p) u y.w = subst (λ z. Dart (arc_at t y.f v z) u y.w) q y.dart in
        let face : y.f ≡ f = same_start s k valid coords xs surface sign signs t v y.f u y.w f w p moved d in
        sym y.value ∙ ap h (λ z. arc_at t (face z) v (q z))
    arrive m i j c t v f u w p d wide_is sum q (inr y) = absurd (one_start s k valid coords xs surface sign signs t v f u w y.f y.w p i d y.dart (omega arith))

    other_end : {A B : Type 0} → A ⊎ B → B ⊎ A
    other_end (inl a) = inr a
    other_end (inr b) = inl b

    -- darts that begin at one point have the same truth value
    pub one_turn : (b b' : Arc) → OnSurface b → OnSurface b' → start s k valid coords xs surface sign signs b ≡ start s k valid coords xs surface sign signs b' → h b ≡ h b'
    unfolding start
    one_turn b b' x x' e =
        let d = dart_of s.rows coords xs surface sign signs b x in
        let d' = dart_of s.rows coords xs surface sign signs b' x' in
        let edge = edge_of s k valid coords xs surface sign signs b.tet b.vertex b.face (from b) (to b) b.place x d.four in
        let edge' = edge_of s k valid coords xs surface sign signs b'.tet b'.vertex b'.face (from b') (to b') b'.place x' d'.four in
        let l = inside s k valid coords xs surface sign signs b.tet b.vertex b.face (from b) (to b) b.place x d.four in
        let l' = inside s k valid coords xs surface sign signs b'.tet b'.vertex b'.face (from b') (to b') b'.place x' d'.four in
        along (broad b.tet b.vertex (from b)) (broad b.tet b.vertex (from b) - 1 - b.place) refl (omega arith) edge edge' d d'
        (points_meet s k valid coords xs surface b.tet b.vertex (from b) b.place b'.tet b'.vertex (from b') b'.place edge edge' l l' e)
      where
        begun : (m i : ℕ) → broad b.tet b.vertex (from b) ≡ m → IsEdge s k valid b.tet b.vertex (from b) → Dart b (from b) (to b) → Around m i b.place (h b) (pair b.tet b.vertex (from b))
        begun m i wide_m edge d = record { v = b.vertex; u = from b; is = refl; edge = edge; width = wide_m; at = inl (record { f = b.face; w = to b; dart = d; value = refl }) }

        along : (m i : ℕ) → broad b.tet b.vertex (from b) ≡ m → i + b.place + 1 ≡ m → IsEdge s k valid b.tet b.vertex (from b) → IsEdge s k valid b'.tet b'.vertex (from b') → Dart b (from b) (to b) → Dart b' (from b') (to b')
            → (IsJoined s.rows (pair b.tet b.vertex (from b)) (pair b'.tet b'.vertex (from b')) × (b.place ≡ b'.place)) ⊎ (IsJoined s.rows (pair b.tet b.vertex (from b)) (pair b'.tet (from b') b'.vertex) × (b.place + b'.place + 1 ≡ broad b.tet b.vertex (from b))) → h b ≡ h b'
        along m i wide_m sum edge edge' d d' (inl z) =
            let r = corner_of m i b.place (h b) b'.tet b'.vertex (from b') (kept_along s.rows (Around m i b.place (h b)) (carried_on m i b.place (h b) sum) (z.0).0 (pair b.tet b.vertex (from b)) (pair b'.tet b'.vertex (from b')) (begun m i wide_m edge d) (z.0).1) in
            arrive m i b.place (h b) b'.tet b'.vertex b'.face (from b') (to b') b'.place d' r.0 sum z.1 r.1
        along m i wide_m sum edge edge' d d' (inr z) =
            let r = corner_of m i b.place (h b) b'.tet (from b') b'.vertex (kept_along s.rows (Around m i b.place (h b)) (carried_on m i b.place (h b) sum) (z.0).0 (pair b.tet b.vertex (from b)) (pair b'.tet (from b') b'.vertex) (begun m i wide_m edge d) (z.0).1) in
            let back_wide : broad b'.tet b'.vertex (from b') ≡ m = sym (wide_back s k valid coords xs surface b'.tet b'.vertex (from b') edge') ∙ r.0 in
            let p = z.1 in
            arrive m b.place i (h b) b'.tet b'.vertex b'.face (from b') (to b') b'.place d' back_wide (omega arith) (omega arith) (other_end r.1)
