-- The arcs of a piece follow one another in a circle: three around a triangle, four around a quad, eight around an
-- octagon.
use Rattle.std.proofs.Common.{◌≡◌, ◌≢◌, ℕ, ◌+◌, ◌-◌, ◌/◌, ◌%◌, ◌<◌, ◌≤◌, Bool, List, length, inl, inr, sym, ap, ◌∙◌, subst, arith}
use Rattle.std.specs.Prelude.{slice_index}
use Rattle.std.proofs.lemmas.Bool.{cases_eq, cases_lt}
use Rattle.table_definitions.specs.Table.{Row}
use Rattle.surface_definitions.specs.Coordinates.{columns_each, tri_column, keeping}
use Rattle.surface_definitions.specs.declared.Coords.{Coords}
use Rattle.surface_definitions.specs.Pieces.{NormalDisc, Arc, arcs_around, disc_of, type_in, keeps_by_zero}
use Rattle.surface_laws.specs.PieceLaws.{IsSurface}
use Rattle.surface_laws.proofs.ArcPieces.{from_end, from_end_twice, arc_in}
use Rattle.surface_laws.proofs.ColumnKinds.{high_behind, low_triangle, one_triangle}
use Rattle.surface_laws.proofs.MeetingArcs.{arc_at}
use Rattle.surface_laws.proofs.PieceNumbers.{piece_at}
use Rattle.surface_euler_laws.proofs.Four.{Four, middle_two, last_two, opposite, other_type, third, fourth, rest_four, one_of_rest}
use Rattle.surface_euler_laws.proofs.Shapes.{behind_type}
use Rattle.surface_euler_laws.proofs.ArcList.{IsArc}
use Rattle.surface_double_laws.proofs.PieceArcs.{over_four, tri, behind, type_of, arcs_are, low_disc, high_disc, none_behind, one_column}
use Rattle.surface_double_laws.proofs.Darts.{AreOriented, IsDart, first, last, dart_of}
use Rattle.surface_double_laws.proofs.DartSteps.{next, near_step, far_step, near_before, placed}

module _ (rows : List Row) (coords : Coords) (xs : List ℕ) (s : IsSurface rows coords xs) (sign : ℕ → Bool) (signs : AreOriented rows coords xs sign) where
  abbrev OnSurface : Arc → Type 0
  OnSurface b = IsArc rows coords xs s b

  abbrev Dart : Arc → ℕ → ℕ → Type 0
  Dart b u w = IsDart rows coords xs s sign signs b u w

  abbrev after : Arc → Arc
  after b = next rows coords xs s sign signs b

  abbrev of : Arc → NormalDisc
  of b = disc_of coords xs b

  abbrev tris : ℕ → ℕ → ℕ
  tris t v = tri coords xs t v

  abbrev many_behind : ℕ → ℕ → ℕ
  many_behind t k = behind coords xs t k

  abbrev type : ℕ → ℕ → ℕ
  type t k = type_of coords xs t k

  -- ---- what is the same at each arc and the next one is the same at all arcs of a piece

  module _ (h : Arc → Bool) (even : (b : Arc) → IsArc rows coords xs s b → h (next rows coords xs s sign signs b) ≡ h b) (a : Arc) where
    -- a dart of the piece of arc a with the same truth value, which is an arc of a quad or an octagon
    record Seen (t v f u w i j : ℕ) : Type 0 where
      dart : IsDart rows coords xs s sign signs (arc_at t f v (tri coords xs t v + i)) u w
      value : h (arc_at t f v (tri coords xs t v + i)) ≡ h a
      disc : disc_of coords xs (arc_at t f v (tri coords xs t v + i)) ≡ disc_of coords xs a
      many : i + j + 1 ≡ behind coords xs t (keeping v f)

    -- the next one, around the other end of the edge where it ends
    seen_far : (t v f u w i j : ℕ) → Seen t v f u w i j → type t (keeping v f) ≢ keeping v w → Seen t w u v f j i
    seen_far t v f u w i j q ne =
        let r = far_step rows coords xs s sign signs t v f u w i j q.dart q.many ne in
        let d = q.dart in
        let many = q.many in
        let as_many = ap (behind coords xs t) r.kind in
        record {
          dart = r.dart;
          value = ap h (sym r.next_is) ∙ even (arc_at t f v (tri coords xs t v + i)) d.on ∙ q.value;
          disc = r.disc ∙ q.disc;
          many = omega arith;
        }

    -- the one after the next one
    seen_second : (t v f u w i j : ℕ) → Seen t v f u w i j → type t (keeping v f) ≡ keeping v w → Seen t f w v u j i × (type t (keeping f w) ≡ keeping f u)
    seen_second t v f u w i j q e =
        let d = q.dart in
        let x = d.on in
        let many = q.many in
        let four = d.four in
        let r = near_step rows coords xs s sign signs t v f u w (tri coords xs t v + i) q.dart (inr e) in
        let column : behind_type coords xs t (keeping v u) ≡ behind_type coords xs t (keeping v f) = one_column rows coords xs s t x.in_range v f u w four (omega arith) e in
        let as_many = ap (slice_index xs) column in
        let types = ap (type_in coords) column in
        let between : Seen t v u w f i j = record {
          dart = r.dart;
          value = ap h (sym r.next_is) ∙ even (arc_at t f v (tri coords xs t v + i)) d.on ∙ q.value;
          disc = r.disc ∙ q.disc;
          many = omega arith;
        } in
        let separate : keeping v w ≢ keeping v f = other_type v w f u (middle_two v f w u (last_two v f u w four)) in
        let kinds : keeping f w ≡ keeping v u = sym (opposite v u f w (middle_two v f u w four)) in (
          seen_far t v u w f i j between (λ g. separate (sym e ∙ sym types ∙ g)),
          ap (type_of coords xs t) kinds ∙ types ∙ e ∙ opposite v w f u (middle_two v f w u (last_two v f u w four)),
        )

    -- an arc of the piece around a vertex where one was seen
    around : (t v f u w i j y p : ℕ) → Seen t v f u w i j → OnSurface (arc_at t y v (tri coords xs t v + p)) → of (arc_at t y v (tri coords xs t v + p)) ≡ of a → h (arc_at t y v (tri coords xs t v + p)) ≡ h a
    around t v f u w i j y p q at same =
        let d = q.dart in
        let x = d.on in
        let four = d.four in
        let many = q.many in
        let r : Four v y (third v y) (fourth v y) = rest_four v y at.is_vertex at.face at.off in
        let all = arcs_are rows coords xs s t x.in_range v y (third v y) (fourth v y) r in
        let there : tri coords xs t v + p < arcs_around coords xs t y v = at.there in
        let some : p < behind coords xs t (keeping v y) = omega arith in
        let discs : piece_at (behind_type coords xs t (keeping v y)) (from_end (behind coords xs t (keeping v y)) (keeps_by_zero (type_of coords xs t (keeping v y)) v) p)
        ≡ piece_at (behind_type coords xs t (keeping v f)) (from_end (behind coords xs t (keeping v f)) (keeps_by_zero (type_of coords xs t (keeping v f)) v) i) =
        sym (high_disc rows coords xs s t x.in_range v y (third v y) (fourth v y) r p) ∙ same ∙ sym q.disc ∙ high_disc rows coords xs s t x.in_range v f u w four i in
        let column : behind_type coords xs t (keeping v y) ≡ behind_type coords xs t (keeping v f) = ap (λ (z : NormalDisc). z.column) discs in
        let as_many = ap (slice_index xs) column in
        let number : from_end (behind coords xs t (keeping v f)) (keeps_by_zero (type_of coords xs t (keeping v f)) v) p ≡ from_end (behind coords xs t (keeping v f)) (keeps_by_zero (type_of coords xs t (keeping v f)) v) i =
        sym (λ k. from_end (slice_index xs (column k)) (keeps_by_zero (type_in coords (column k)) v) p) ∙ ap (λ (z : NormalDisc). z.number) discs in
        let index : p ≡ i =
        sym (from_end_twice (behind coords xs t (keeping v f)) (keeps_by_zero (type_of coords xs t (keeping v f)) v) p (omega arith))
        ∙ ap (from_end (behind coords xs t (keeping v f)) (keeps_by_zero (type_of coords xs t (keeping v f)) v)) number
        ∙ from_end_twice (behind coords xs t (keeping v f)) (keeps_by_zero (type_of coords xs t (keeping v f)) v) i (omega arith) in
        let moved : (g : ℕ) → y ≡ g → h (arc_at t y v (tri coords xs t v + p)) ≡ h (arc_at t g v (tri coords xs t v + i)) = λ g e. ap h (λ k. arc_at t (e k) v (tri coords xs t v + index k)) in
        elim (cases_eq y f) [
          | inl e ↦ moved f e ∙ q.value
          | inr ne ↦ elim (one_of_rest v f u w y four at.face (λ z. at.off (sym z)) ne) [
            | inl e ↦ elim (cases_eq (type t (keeping v f)) (keeping v w)) [
              | inl o ↦ (let n = near_step rows coords xs s sign signs t v f u w (tri coords xs t v + i) q.dart (inr o) in
                  moved u e ∙ ap h (sym n.next_is) ∙ even (arc_at t f v (tri coords xs t v + i)) x ∙ q.value)
              | inr o ↦ absurd (let none = none_behind rows coords xs s t x.in_range v f u w four (omega arith) o in let z = ap (λ z. many_behind t (keeping v z)) e in omega arith)
            ]
            | inr e ↦ elim (cases_eq (type t (keeping v f)) (keeping v u)) [
              | inl o ↦ (let n = near_before rows coords xs s sign signs t v f u w (tri coords xs t v + i) q.dart (inr o) in
                  moved w e ∙ sym (even (arc_at t w v (tri coords xs t v + i)) (n.0).on) ∙ ap h (n.1).next_is ∙ q.value)
              | inr o ↦ absurd (let none = none_behind rows coords xs s t x.in_range v f w u (last_two v f u w four) (omega arith) o in let z = ap (λ z. many_behind t (keeping v z)) e in omega arith)
            ]
          ]
        ]

    -- seen around each vertex
    record SeenAll (t : ℕ) : Type 0 where
      at : (c : Arc) → IsArc rows coords xs s c → c.tet ≡ t → tri coords xs c.tet c.vertex ≤ c.place → disc_of coords xs c ≡ disc_of coords xs a → h c ≡ h a

    seen_all : (t v f u w i j v1 f1 u1 w1 i1 j1 v2 f2 u2 w2 i2 j2 v3 f3 u3 w3 i3 j3 : ℕ) → Seen t v f u w i j → Seen t v1 f1 u1 w1 i1 j1 → Seen t v2 f2 u2 w2 i2 j2 → Seen t v3 f3 u3 w3 i3 j3
        → Four v v1 v2 v3 → SeenAll t
    seen_all t v f u w i j v1 f1 u1 w1 i1 j1 v2 f2 u2 w2 i2 j2 v3 f3 u3 w3 i3 j3 q q1 q2 q3 four = record {
      at = λ c y tet high e. elim (cases_eq c.vertex v) [
        | inl g ↦ at_vertex v f u w i j q c y tet g high e
        | inr n ↦ elim (cases_eq c.vertex v1) [
          | inl g ↦ at_vertex v1 f1 u1 w1 i1 j1 q1 c y tet g high e
          | inr n1 ↦ elim (one_of_rest v v1 v2 v3 c.vertex four y.is_vertex n n1) [
            | inl g ↦ at_vertex v2 f2 u2 w2 i2 j2 q2 c y tet g high e
            | inr g ↦ at_vertex v3 f3 u3 w3 i3 j3 q3 c y tet g high e
          ]
        ]
      ];
    }
      where
        at_vertex : (v f u w i j : ℕ) → Seen t v f u w i j → (c : Arc) → OnSurface c → c.tet ≡ t → c.vertex ≡ v → tri coords xs c.tet c.vertex ≤ c.place → of c ≡ of a → h c ≡ h a
        at_vertex v f u w i j q c y tet at high e =
            let p : ℕ = c.place - tri coords xs c.tet c.vertex in
            let moved : c ≡ arc_at t c.face v (tri coords xs t v + (c.place - tri coords xs c.tet c.vertex)) =
            placed rows coords xs s sign signs c (tri coords xs c.tet c.vertex + (c.place - tri coords xs c.tet c.vertex)) (omega arith) ∙ (λ k. arc_at (tet k) c.face (at k) (tri coords xs (tet k) (at k) + (c.place - tri coords xs c.tet c.vertex))) in
            ap h moved ∙ around t v f u w i j c.face p q (subst (λ z. OnSurface z) moved y) (ap (λ z. of z) (sym moved) ∙ e)

    -- an octagon that meets the edge where the dart ends twice
    octagon_seen : (t v f u w i j : ℕ) → Seen t v f u w i j → type t (keeping v f) ≡ keeping v w → SeenAll t
    octagon_seen t v f u w i j q e =
        let d = q.dart in
        let one = seen_second t v f u w i j q e in
        let two = seen_second t f w v u j i one.0 one.1 in
        let three = seen_second t w u f v i j two.0 two.1 in
        seen_all t v f u w i j f w v u j i w u f v i j u v w f j i q one.0 two.0 three.0 (last_two v f u w d.four)

    -- a quad
    quad_seen : (t v f u w i j : ℕ) → Seen t v f u w i j → type t (keeping v f) ≢ keeping v w → type t (keeping v f) ≢ keeping v u → SeenAll t
    quad_seen t v f u w i j q nw nu =
        let d = q.dart in
        let four = d.four in
        let one : Seen t w u v f j i = seen_far t v f u w i j q nw in
        let d1 = one.dart in
        let k1 : keeping w u ≡ keeping v f = kind v f u w four in
        let kf : keeping v u ≡ keeping w f = sym (opposite w f v u (last_two w f u v (middle_two w u f v (last_two w u v f d1.four)))) in
        let two : Seen t f v w u i j = seen_far t w u v f j i one (λ g. nu (sym (ap (type_of coords xs t) k1) ∙ g ∙ sym kf)) in
        let d2 = two.dart in
        let k2 : keeping f v ≡ keeping w u = kind w u v f d1.four in
        let kw : keeping v w ≡ keeping f u = opposite v w f u (middle_two v f w u (last_two v f u w four)) in
        let three : Seen t u w f v j i = seen_far t f v w u i j two (λ g. nw (sym (ap (type_of coords xs t) (k2 ∙ k1)) ∙ g ∙ sym kw)) in
        seen_all t v f u w i j w u v f j i f v w u i j u w f v j i q one two three (middle_two v f w u (last_two v f u w four))
      where
        kind : (v f u w : ℕ) → Four v f u w → keeping w u ≡ keeping v f
        kind v f u w four = opposite w u v f (over_four v f u w four)

    further_seen : (t v f u w i j : ℕ) → Seen t v f u w i j → SeenAll t
    further_seen t v f u w i j q =
        let d = q.dart in
        let four = d.four in
        elim (cases_eq (type t (keeping v f)) (keeping v w)) [
          | inl e ↦ octagon_seen t v f u w i j q e
          | inr nw ↦ elim (cases_eq (type t (keeping v f)) (keeping v u)) [
            | inr nu ↦ quad_seen t v f u w i j q nw nu
            | inl e ↦ (let one : Seen t w u v f j i = seen_far t v f u w i j q nw in
                let kinds : keeping w u ≡ keeping v f = opposite w u v f (over_four v f u w four) in
                let edge : keeping v u ≡ keeping w f = sym (opposite w f v u (last_two w f u v (middle_two w u f v (last_two w u v f (over_four v f u w four))))) in
                octagon_seen t w u v f j i one (ap (type_of coords xs t) kinds ∙ e ∙ edge))
          ]
        ]

  pub one_piece : (h : Arc → Bool) → ((b : Arc) → OnSurface b → h (after b) ≡ h b) → (b c : Arc) → OnSurface b → OnSurface c → of b ≡ of c → h b ≡ h c
  one_piece h even b c x y e =
      let r = rest_four c.vertex c.face y.is_vertex y.face y.off in
      let d = dart_of rows coords xs s sign signs b x in
      let u : ℕ = first rows coords xs s sign signs b in
      let w : ℕ = last rows coords xs s sign signs b in
      let four = d.four in
      elim (cases_lt b.place (tri coords xs b.tet b.vertex)) [
        | inl l ↦ (let here = low_disc rows coords xs s b.tet x.in_range b.vertex b.face (first rows coords xs s sign signs b) (last rows coords xs s sign signs b) four b.place l in
            elim (cases_lt c.place (tri coords xs c.tet c.vertex)) [
              | inl m ↦ low b c x y l (sym here ∙ e ∙ low_disc rows coords xs s c.tet y.in_range c.vertex c.face (third c.vertex c.face) (fourth c.vertex c.face) r c.place m)
              | inr m ↦ absurd (low_high b.tet b.vertex c x.is_vertex y m (ap (λ (p : NormalDisc). p.column) (sym here ∙ e)))
            ])
        | inr k ↦ elim (cases_lt c.place (tri coords xs c.tet c.vertex)) [
          | inl m ↦ absurd (low_high c.tet c.vertex b y.is_vertex x k (ap (λ (p : NormalDisc). p.column) (sym (low_disc rows coords xs s c.tet y.in_range c.vertex c.face (third c.vertex c.face) (fourth c.vertex c.face) r c.place m) ∙ sym e)))
          | inr m ↦ (let all = arcs_are rows coords xs s b.tet x.in_range b.vertex b.face (first rows coords xs s sign signs b) (last rows coords xs s sign signs b) four in
              let there : b.place < arcs_around coords xs b.tet b.face b.vertex = x.there in
              let i : ℕ = b.place - tri coords xs b.tet b.vertex in
              let at : b ≡ arc_at b.tet b.face b.vertex (tri coords xs b.tet b.vertex + (b.place - tri coords xs b.tet b.vertex)) = placed rows coords xs s sign signs b (tri coords xs b.tet b.vertex + (b.place - tri coords xs b.tet b.vertex)) (omega arith) in
              let seen : Seen h even b b.tet b.vertex b.face (first rows coords xs s sign signs b) (last rows coords xs s sign signs b) (b.place - tri coords xs b.tet b.vertex) (behind coords xs b.tet (keeping b.vertex b.face) - 1 - (b.place - tri coords xs b.tet b.vertex)) = record {
                dart = subst (λ z. Dart z u w) at d;
                value = ap h (sym at);
                disc = ap (λ z. of z) (sym at);
                many = omega arith;
              } in
              let tet : c.tet ≡ b.tet =
              sym (arc_in coords (length rows) xs s.triangles s.admissible c.tet c.face c.vertex c.place y.in_range y.face y.is_vertex y.off)
              ∙ ap (λ (p : NormalDisc). p.column / columns_each coords) (sym e)
              ∙ arc_in coords (length rows) xs s.triangles s.admissible b.tet b.face b.vertex b.place x.in_range x.face x.is_vertex x.off in
              sym ((further_seen h even b b.tet b.vertex b.face u w i (behind coords xs b.tet (keeping b.vertex b.face) - 1 - i) seen).at c y tet m (sym e)))
        ]
      ]
    where
      -- a triangle is no quad or octagon
      low_high : (t v : ℕ) (c : Arc) → v < 4 → OnSurface c → tri coords xs c.tet c.vertex ≤ c.place → tri_column coords t v ≡ (of c).column → ⊥
      low_high t v c lv y m e =
          let r = rest_four c.vertex c.face y.is_vertex y.face y.off in
          let i : ℕ = c.place - tri coords xs c.tet c.vertex in
          let at : c ≡ arc_at c.tet c.face c.vertex (tri coords xs c.tet c.vertex + (c.place - tri coords xs c.tet c.vertex)) = placed rows coords xs s sign signs c (tri coords xs c.tet c.vertex + (c.place - tri coords xs c.tet c.vertex)) (omega arith) in
          let column : tri_column coords t v ≡ behind_type coords xs c.tet (keeping c.vertex c.face) =
          e ∙ ap (λ (p : NormalDisc). p.column) (ap (λ z. of z) at ∙ high_disc rows coords xs s c.tet y.in_range c.vertex c.face (third c.vertex c.face) (fourth c.vertex c.face) r i) in
          let limited : tri_column coords t v % columns_each coords < 4 = low_triangle coords t v s.triangles lv in
          let more : 4 ≤ behind_type coords xs c.tet (keeping c.vertex c.face) % columns_each coords = high_behind coords xs c.tet c.face c.vertex s.triangles y.face y.is_vertex y.off in
          let same = ap (λ z. z % columns_each coords) column in
          omega arith

      low : (b c : Arc) (x : OnSurface b) (y : OnSurface c) (l : b.place < tri coords xs b.tet b.vertex) → piece_at (tri_column coords b.tet b.vertex) b.place ≡ piece_at (tri_column coords c.tet c.vertex) c.place → h b ≡ h c
      low b c x y l e =
          let both = one_triangle coords b.tet b.vertex c.tet c.vertex s.triangles x.is_vertex y.is_vertex (ap (λ (p : NormalDisc). p.column) e) in
          let place : b.place ≡ c.place = ap (λ (p : NormalDisc). p.number) e in
          let tet : b.tet ≡ c.tet = both.0 in
          let at : b.vertex ≡ c.vertex = both.1 in
          let d = dart_of rows coords xs s sign signs b x in
          let u : ℕ = first rows coords xs s sign signs b in
          let w : ℕ = last rows coords xs s sign signs b in
          let one = near_step rows coords xs s sign signs b.tet b.vertex b.face u w b.place d (inl l) in
          let two = near_step rows coords xs s sign signs b.tet b.vertex u w b.face b.place one.dart (inl l) in
          let moved : (g : ℕ) → c.face ≡ g → arc_at b.tet g b.vertex b.place ≡ c = λ g f. ap (λ z. arc_at b.tet z b.vertex b.place) (sym f) ∙ (λ i. arc_at (tet i) c.face (at i) (place i)) in
          let first_same : h (arc_at b.tet (first rows coords xs s sign signs b) b.vertex b.place) ≡ h b = ap h (sym one.next_is) ∙ even b x in
          let last_same : h (arc_at b.tet (last rows coords xs s sign signs b) b.vertex b.place) ≡ h (arc_at b.tet (first rows coords xs s sign signs b) b.vertex b.place) =
          ap h (sym two.next_is) ∙ even (arc_at b.tet (first rows coords xs s sign signs b) b.vertex b.place) (one.dart).on in
          elim (cases_eq c.face b.face) [
            | inl f ↦ ap h (moved b.face f)
            | inr ne ↦ elim (one_of_rest b.vertex b.face (first rows coords xs s sign signs b) (last rows coords xs s sign signs b) c.face d.four y.face (λ z. y.off (sym at ∙ sym z)) ne) [
              | inl f ↦ sym first_same ∙ ap h (moved (first rows coords xs s sign signs b) f)
              | inr f ↦ sym first_same ∙ sym last_same ∙ ap h (moved (last rows coords xs s sign signs b) f)
            ]
          ]
