-- The next arc of a piece begins where an arc ends. It is around the same vertex, or around the other end of the edge
-- there.
use Rattle.std.proofs.Common.{◌≡◌, ◌≢◌, ℕ, ◌+◌, ◌-◌, ◌<◌, Bool, true, false, not, cond, List, ◌⊎◌, inl, inr, refl, sym, ap, ◌∙◌, subst, arith}
use Rattle.std.specs.Prelude.{nat_lt, ◌==◌, ◌||◌}
use Rattle.std.proofs.lemmas.Bool.{lt-ltb, le-ltb, eq-eqb, ne_eqb, or_left, or_right, cases_lt, cases_eq}
use Rattle.table_definitions.specs.Table.{Row}
use Rattle.surface_definitions.specs.Coordinates.{keeping}
use Rattle.surface_definitions.specs.declared.Coords.{Coords}
use Rattle.surface_definitions.specs.Pieces.{NormalDisc, Arc, arcs_around, disc_of, disc_number, looks_positive}
use Rattle.surface_laws.specs.PieceLaws.{IsSurface}
use Rattle.surface_laws.proofs.MeetingArcs.{arc_at}
use Rattle.surface_euler_laws.proofs.Four.{Four, middle_two, last_two, either_way}
use Rattle.surface_euler_laws.proofs.ArcList.{IsArc}
use Rattle.surface_double_laws.proofs.Words.{odd, odd_round, odd_over}
use Rattle.surface_double_laws.proofs.PieceArcs.{round_four, over_four, tri, behind, type_of, StaysAt, arcs_are, IsNear, near, IsFar, far}
use Rattle.surface_double_laws.proofs.Darts.{AreOriented, same_if, side_not, IsDart, first, last, dart_of, one_dart}

module _ (rows : List Row) (coords : Coords) (xs : List ℕ) (s : IsSurface rows coords xs) (sign : ℕ → Bool) (signs : AreOriented rows coords xs sign) where
  abbrev OnSurface : Arc → Type 0
  OnSurface b = IsArc rows coords xs s b

  abbrev Dart : Arc → ℕ → ℕ → Type 0
  Dart b u w = IsDart rows coords xs s sign signs b u w

  abbrev from : Arc → ℕ
  from b = first rows coords xs s sign signs b

  abbrev to : Arc → ℕ
  to b = last rows coords xs s sign signs b

  abbrev of : Arc → NormalDisc
  of b = disc_of coords xs b

  -- ---- the next arc of the piece, around the same vertex or around the other end of the edge

  abbrev place_from_end : Arc → ℕ → ℕ
  place_from_end b w = tri coords xs b.tet w + (behind coords xs b.tet (keeping b.vertex b.face) - 1 - (b.place - tri coords xs b.tet b.vertex))

  -- whether the piece has an arc around the same vertex on the other side of the edge to w
  abbrev stays : Arc → ℕ → Bool
  stays b w = nat_lt b.place (tri coords xs b.tet b.vertex) || (type_of coords xs b.tet (keeping b.vertex b.face) == keeping b.vertex w)

  -- the arc in face u, at the end w
  abbrev step_if : Bool → Arc → ℕ → ℕ → Arc
  step_if c b u w = cond c (arc_at b.tet u b.vertex b.place) (arc_at b.tet u w (place_from_end b w))

  pub next : Arc → Arc
  next b = step_if (stays b (to b)) b (from b) (to b)

  pub previous : Arc → Arc
  previous b = step_if (stays b (from b)) b (to b) (from b)

  next_by : (b : Arc) (u w : ℕ) → Dart b u w → next b ≡ step_if (stays b w) b u w
  unfolding next
  next_by b u w d =
      let e = one_dart rows coords xs s sign signs b (from b) (to b) u w (dart_of rows coords xs s sign signs b d.on) d in
      λ i. step_if (stays b (e.1 i)) b (e.0 i) (e.1 i)

  previous_by : (b : Arc) (u w : ℕ) → Dart b u w → previous b ≡ step_if (stays b u) b w u
  unfolding previous
  previous_by b u w d =
      let e = one_dart rows coords xs s sign signs b (from b) (to b) u w (dart_of rows coords xs s sign signs b d.on) d in
      λ i. step_if (stays b (e.0 i)) b (e.1 i) (e.0 i)

  step_near : (t v f u w j : ℕ) → StaysAt coords xs t v f w j → step_if (stays (arc_at t f v j) w) (arc_at t f v j) u w ≡ arc_at t u v j
  step_near t v f u w j c = ap (λ z. step_if z (arc_at t f v j) u w) (stays_if c)
    where
      stays_if : StaysAt coords xs t v f w j → stays (arc_at t f v j) w ≡ true
      stays_if (inl l) = or_left (nat_lt j (tri coords xs t v)) (type_of coords xs t (keeping v f) == keeping v w) (lt-ltb j (tri coords xs t v) l)
      stays_if (inr e) = or_right (nat_lt j (tri coords xs t v)) (type_of coords xs t (keeping v f) == keeping v w) (eq-eqb (type_of coords xs t (keeping v f)) (keeping v w) e)

  step_far : (t v f u w i j : ℕ) → i + j + 1 ≡ behind coords xs t (keeping v f) → type_of coords xs t (keeping v f) ≢ keeping v w
      → step_if (stays (arc_at t f v (tri coords xs t v + i)) w) (arc_at t f v (tri coords xs t v + i)) u w ≡ arc_at t u w (tri coords xs t w + j)
  step_far t v f u w i j l ne =
      let place : behind coords xs t (keeping v f) - 1 - (tri coords xs t v + i - tri coords xs t v) ≡ j = omega arith in
      ap (λ z. step_if z (arc_at t f v (tri coords xs t v + i)) u w)
      ((λ k. le-ltb (tri coords xs t v + i) (tri coords xs t v) (omega arith) k || ne_eqb (type_of coords xs t (keeping v f)) (keeping v w) ne k))
      ∙ ap (λ p. arc_at t u w (tri coords xs t w + p)) place

  -- from the arc around v in face f to that in face u
  pub record IsNearStep (t v f u w j : ℕ) : Type 0 where
    pub next_is : next (arc_at t f v j) ≡ arc_at t u v j
    pub back_is : previous (arc_at t u v j) ≡ arc_at t f v j
    pub dart : Dart (arc_at t u v j) w f
    pub disc : disc_of coords xs (arc_at t u v j) ≡ disc_of coords xs (arc_at t f v j)

  pub near_step : (t v f u w j : ℕ) → Dart (arc_at t f v j) u w → StaysAt coords xs t v f w j → IsNearStep t v f u w j
  near_step t v f u w j d c =
      let x : OnSurface (arc_at t f v j) = d.on in
      let a : Four v u w f = round_four v f u w d.four in
      let n : IsNear rows coords xs s t x.in_range v f u j = near rows coords xs s t x.in_range v f u w j d.four x.there c in
      let e : Dart (arc_at t u v j) w f = record {
        on = record { in_range = x.in_range; face = a.lu; is_vertex = a.lv; off = a.vu; there = n.there };
        four = a;
        sensed = odd_round v f u w d.four ∙ d.sensed ∙ (λ i. same_if (sign (disc_number xs (sym n.disc i))) (sym n.side i));
      } in
      let c' : StaysAt coords xs t v u w j = elim n.type_same [
        | inl l ↦ inl l
        | inr q ↦ elim c [ inl l ↦ inl l | inr r ↦ inr (q ∙ r) ]
      ] in
      record {
        next_is = next_by (arc_at t f v j) u w d ∙ step_near t v f u w j c;
        back_is = previous_by (arc_at t u v j) w f e ∙ step_near t v u f w j c';
        dart = e;
        disc = n.disc;
      }

  -- from the arc around v in face f to that around w in face u
  pub record IsFarStep (t v f u w i j : ℕ) : Type 0 where
    pub next_is : next (arc_at t f v (tri coords xs t v + i)) ≡ arc_at t u w (tri coords xs t w + j)
    pub back_is : previous (arc_at t u w (tri coords xs t w + j)) ≡ arc_at t f v (tri coords xs t v + i)
    pub dart : Dart (arc_at t u w (tri coords xs t w + j)) v f
    pub disc : disc_of coords xs (arc_at t u w (tri coords xs t w + j)) ≡ disc_of coords xs (arc_at t f v (tri coords xs t v + i))
    pub kind : keeping w u ≡ keeping v f

  pub far_step : (t v f u w i j : ℕ) → Dart (arc_at t f v (tri coords xs t v + i)) u w → i + j + 1 ≡ behind coords xs t (keeping v f) → type_of coords xs t (keeping v f) ≢ keeping v w
      → IsFarStep t v f u w i j
  far_step t v f u w i j d l ne =
      let x : OnSurface (arc_at t f v (tri coords xs t v + i)) = d.on in
      let a : Four w u v f = over_four v f u w d.four in
      let n : IsFar rows coords xs s t x.in_range v f u w i j = far rows coords xs s t x.in_range v f u w i j d.four l ne in
      let e : Dart (arc_at t u w (tri coords xs t w + j)) v f = record {
        on = record { in_range = x.in_range; face = a.lu; is_vertex = a.lv; off = a.vu; there = n.there };
        four = a;
        sensed = odd_over v f u w d.four ∙ ap not d.sensed
            ∙ sym (side_not (sign (disc_number xs (disc_of coords xs (arc_at t f v (tri coords xs t v + i))))) (looks_positive coords xs (arc_at t f v (tri coords xs t v + i))) (looks_positive coords xs (arc_at t u w (tri coords xs t w + j))) n.side)
            ∙ ap (λ p. same_if (sign (disc_number xs p)) (looks_positive coords xs (arc_at t u w (tri coords xs t w + j)))) (sym n.disc);
      } in
      let as_many = ap (behind coords xs t) n.kind_same in
      let turned_edge : keeping v w ≡ keeping w v = either_way v w f u (middle_two v f w u (last_two v f u w d.four)) in
      record {
        next_is = next_by (arc_at t f v (tri coords xs t v + i)) u w d ∙ step_far t v f u w i j l ne;
        back_is = previous_by (arc_at t u w (tri coords xs t w + j)) v f e ∙ step_far t w u f v j i (omega arith) (λ q. ne (sym (ap (type_of coords xs t) n.kind_same) ∙ q ∙ sym turned_edge));
        dart = e;
        disc = n.disc;
        kind = n.kind_same;
      }

  -- ---- the arc before an arc

  pub near_before : (t v f u w j : ℕ) → Dart (arc_at t f v j) u w → StaysAt coords xs t v f u j → Dart (arc_at t w v j) f u × IsNearStep t v w f u j
  near_before t v f u w j d c =
      let x : OnSurface (arc_at t f v j) = d.on in
      let b : Four v f w u = last_two v f u w d.four in
      let a : Four v w f u = middle_two v f w u b in
      let n : IsNear rows coords xs s t x.in_range v f w j = near rows coords xs s t x.in_range v f w u j b x.there c in
      let e : Dart (arc_at t w v j) f u = record {
        on = record { in_range = x.in_range; face = a.lu; is_vertex = a.lv; off = a.vu; there = n.there };
        four = a;
        sensed = sym (odd_round v w f u a) ∙ d.sensed ∙ (λ i. same_if (sign (disc_number xs (sym n.disc i))) (sym n.side i));
      } in
      let c' : StaysAt coords xs t v w u j = elim n.type_same [
        | inl l ↦ inl l
        | inr q ↦ elim c [ inl l ↦ inl l | inr r ↦ inr (q ∙ r) ]
      ] in
      (e, near_step t v w f u j e c')

  pub far_before : (t v f u w i j : ℕ) → Dart (arc_at t f v (tri coords xs t v + i)) u w → i + j + 1 ≡ behind coords xs t (keeping v f) → type_of coords xs t (keeping v f) ≢ keeping v u
      → Dart (arc_at t w u (tri coords xs t u + j)) f v × IsFarStep t u w f v j i
  far_before t v f u w i j d l ne =
      let x : OnSurface (arc_at t f v (tri coords xs t v + i)) = d.on in
      let b : Four v f w u = last_two v f u w d.four in
      let a : Four u w f v = last_two u w v f (over_four v f w u b) in
      let n : IsFar rows coords xs s t x.in_range v f w u i j = far rows coords xs s t x.in_range v f w u i j b l ne in
      let e : Dart (arc_at t w u (tri coords xs t u + j)) f v = record {
        on = record { in_range = x.in_range; face = a.lu; is_vertex = a.lv; off = a.vu; there = n.there };
        four = a;
        sensed = back_over v f u w a ∙ ap not d.sensed
            ∙ sym (side_not (sign (disc_number xs (disc_of coords xs (arc_at t f v (tri coords xs t v + i))))) (looks_positive coords xs (arc_at t f v (tri coords xs t v + i))) (looks_positive coords xs (arc_at t w u (tri coords xs t u + j))) n.side)
            ∙ ap (λ p. same_if (sign (disc_number xs p)) (looks_positive coords xs (arc_at t w u (tri coords xs t u + j)))) (sym n.disc);
      } in
      let as_many = ap (behind coords xs t) n.kind_same in
      let turned_edge : keeping v u ≡ keeping u v = either_way v u f w (middle_two v f u w d.four) in
      (e, far_step t u w f v j i e (omega arith) (λ q. ne (sym (ap (type_of coords xs t) n.kind_same) ∙ q ∙ sym turned_edge)))
    where
      twice_not : (b : Bool) → b ≡ not (not b)
      twice_not true = refl
      twice_not false = refl

      back_over : (v f u w : ℕ) → Four u w f v → odd u w f v ≡ not (odd v f u w)
      back_over v f u w a = twice_not (odd u w f v) ∙ ap not (sym (odd_over u w f v a))

  -- ---- which of the two it is

  -- an arc that is not around the same vertex at the other side of the edge from v to w, by its index and by that from
  -- the other end
  pub record Leaves (t v f w p : ℕ) : Type 0 where
    pub i : ℕ
    pub j : ℕ
    pub place : p ≡ tri coords xs t v + i
    pub many : i + j + 1 ≡ behind coords xs t (keeping v f)
    pub separate : type_of coords xs t (keeping v f) ≢ keeping v w

  pub stays_or_leaves : (t v f u w p z : ℕ) → Four v f u w → OnSurface (arc_at t f v p) → StaysAt coords xs t v f z p ⊎ Leaves t v f z p
  stays_or_leaves t v f u w p z four x = elim (cases_lt p (tri coords xs t v)) [
    | inl l ↦ inl (inl l)
    | inr h ↦ elim (cases_eq (type_of coords xs t (keeping v f)) (keeping v z)) [
      | inl e ↦ inl (inr e)
      | inr ne ↦ (let all = arcs_are rows coords xs s t x.in_range v f u w four in
          let there : p < arcs_around coords xs t f v = x.there in
          inr (record {
            i = p - tri coords xs t v;
            j = behind coords xs t (keeping v f) - 1 - (p - tri coords xs t v);
            place = omega arith;
            many = omega arith;
            separate = ne;
          }))
    ]
  ]

  -- ---- the next arc is of the same piece

  -- the arc with this place
  pub placed : (b : Arc) (p : ℕ) → b.place ≡ p → b ≡ arc_at b.tet b.face b.vertex p
  placed b p e = ap (arc_at b.tet b.face b.vertex) e

  -- the next arc is of the same piece, and the arc before it is the first one
  record IsNext (b : Arc) : Type 0 where
    on : OnSurface (next b)
    disc : disc_of coords xs (next b) ≡ disc_of coords xs b
    back : previous (next b) ≡ b

  next_arc : (b : Arc) → OnSurface b → IsNext b
  next_arc b x =
      let d = dart_of rows coords xs s sign signs b x in
      let u : ℕ = from b in
      let w : ℕ = to b in
      elim (stays_or_leaves b.tet b.vertex b.face (from b) (to b) b.place (to b) d.four x) [
        | inl c ↦ (let r = near_step b.tet b.vertex b.face u w b.place d c in
            record {
              on = subst (λ z. OnSurface z) (sym r.next_is) (r.dart).on;
              disc = ap (λ z. of z) r.next_is ∙ r.disc;
              back = ap (previous) r.next_is ∙ r.back_is;
            })
        | inr h ↦ (let e = placed b (tri coords xs b.tet b.vertex + h.i) h.place in
            let r = far_step b.tet b.vertex b.face u w h.i h.j (subst (λ z. Dart z u w) e d) h.many h.separate in
            record {
              on = subst (λ z. OnSurface z) (sym (ap next e ∙ r.next_is)) (r.dart).on;
              disc = ap (λ z. of (next z)) e ∙ ap (λ z. of z) r.next_is ∙ r.disc ∙ ap (λ z. of z) (sym e);
              back = ap (λ z. previous (next z)) e ∙ ap (previous) r.next_is ∙ r.back_is ∙ sym e;
            })
      ]

  pub next_on : (b : Arc) → OnSurface b → OnSurface (next b)
  next_on b x = (next_arc b x).on

  pub next_disc : (b : Arc) → OnSurface b → of (next b) ≡ of b
  next_disc b x = (next_arc b x).disc

  pub next_apart : (b c : Arc) → OnSurface b → OnSurface c → next b ≡ next c → b ≡ c
  next_apart b c x y e = sym (next_arc b x).back ∙ ap (previous) e ∙ (next_arc c y).back
