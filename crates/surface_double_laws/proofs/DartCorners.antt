-- At each corner of a tetrahedron, which is a point of one of its edges, at most one dart begins.
use Rattle.std.proofs.Common.{◌≡◌, ℕ, ◌+◌, ◌-◌, ◌<◌, Bool, not, List, inl, inr, sym, ap, ◌∙◌, subst, arith}
use Rattle.std.proofs.lemmas.Bool.{cases_lt, cases_eq}
use Rattle.basic_lemmas.proofs.Truths.{not_itself}
use Rattle.skeleton_definitions.specs.Skeleton.{Skeleton, IsSkeleton, IsValidClass}
use Rattle.surface_definitions.specs.Coordinates.{keeping}
use Rattle.surface_definitions.specs.declared.Coords.{Coords}
use Rattle.surface_definitions.specs.Pieces.{Arc, arcs_around, disc_of, disc_number, looks_positive}
use Rattle.surface_laws.specs.PieceLaws.{IsSurface}
use Rattle.surface_laws.proofs.MeetingArcs.{arc_at}
use Rattle.surface_euler_laws.proofs.Four.{Four, first_two, middle_two, last_two, opposite, one_of_rest}
use Rattle.surface_euler_laws.proofs.Labels.{wide}
use Rattle.surface_euler_laws.proofs.ArcList.{IsArc}
use Rattle.surface_double_laws.proofs.Words.{odd, odd_faces, odd_both}
use Rattle.surface_double_laws.proofs.PieceArcs.{tri, behind, type_of, arcs_are, none_behind, StaysAt, IsNear, near, IsFar, far}
use Rattle.surface_double_laws.proofs.Darts.{AreOriented, same_if, side_not, sense, IsDart}
use Rattle.surface_double_laws.proofs.DartSteps.{stays_or_leaves}
use Rattle.surface_double_laws.proofs.DartPoints.{broad_is, broad_once, broad_twice}

module _ (s : Skeleton) (k : IsSkeleton s) (valid : (c : ℕ) → c < s.edges.count → IsValidClass s c) (coords : Coords) (xs : List ℕ) (surface : IsSurface s.rows coords xs) (sign : ℕ → Bool) (signs : AreOriented s.rows coords xs sign) where
  abbrev OnSurface : Arc → Type 0
  OnSurface b = IsArc s.rows coords xs surface b

  abbrev Dart : Arc → ℕ → ℕ → Type 0
  Dart b u w = IsDart s.rows coords xs surface sign signs b u w

  abbrev broad : ℕ → ℕ → ℕ → ℕ
  broad t v u = wide s k valid coords xs surface t v u

  -- one dart begins around a vertex at a corner
  pub same_start : (t v f u w f' w' j : ℕ) → Dart (arc_at t f v j) u w → Dart (arc_at t f' v j) u w' → f ≡ f'
  same_start t v f u w f' w' j d e =
      let a = d.four in
      let b = e.four in
      elim (cases_eq f' f) [
        | inl q ↦ sym q
        | inr ne ↦ elim (one_of_rest v f u w f' a b.lu (λ q. b.vu (sym q)) ne) [
          | inl q ↦ absurd (b.uf q)
          | inr q ↦ absurd (other (subst (λ z. Dart (arc_at t z v j) u w') q e) (subst (λ z. Four v z u w') q b))
        ]
      ]
    where
      other : Dart (arc_at t w v j) u w' → Four v w u w' → ⊥
      other e b =
          let a = d.four in
          let x = d.on in
          let y = e.on in
          elim (one_of_rest v f u w w' a b.lw (λ q. b.vw (sym q)) (λ q. other_end q)) [
            | inl q ↦ b.fw (sym q)
            | inr q ↦ b.uw (sym q)
          ]
        where
          other_end : w' ≡ f → ⊥
          other_end q =
              let a = d.four in
              let x = d.on in
              let y = e.on in
              let b' : Four v w u f = subst (λ z. Four v w u z) q b in
              let lj : j < arcs_around coords xs t f v = x.there in
              let lk : j < arcs_around coords xs t w v = y.there in
              let stays : StaysAt coords xs t v f u j = elim (stays_or_leaves s.rows coords xs surface sign signs t v f u w j u a x) [
                | inl c ↦ c
                | inr h ↦ absurd (let many = h.many in
                    let place = h.place in
                    let two = arcs_are s.rows coords xs surface t x.in_range v w u f b' in
                    let none = none_behind s.rows coords xs surface t x.in_range v f w u (last_two v f u w a) (omega arith) h.separate in
                    omega arith)
              ] in
              let n : IsNear s.rows coords xs surface t x.in_range v f w j = near s.rows coords xs surface t x.in_range v f w u j (last_two v f u w a) lj stays in
              let senses : sense s.rows coords xs surface sign signs (arc_at t w v j) ≡ sense s.rows coords xs surface sign signs (arc_at t f v j) = λ i. same_if (sign (disc_number xs (n.disc i))) (n.side i) in
              not_itself (odd v f u w) (d.sensed ∙ sym senses ∙ sym e.sensed ∙ ap (λ z. odd v w u z) q ∙ odd_faces v f u w a)

  -- and none begins there around the other end of the edge
  pub one_start : (t v f u w f' w' i j : ℕ) → Dart (arc_at t f v i) u w → Dart (arc_at t f' u j) v w' → i + j + 1 ≡ broad t v u → ⊥
  one_start t v f u w f' w' i j d e m =
      let a = d.four in
      let b = e.four in
      elim (cases_eq f' f) [
        | inl q ↦ (let x = d.on in
            let y = e.on in
            let li : i < arcs_around coords xs t f v = x.there in
            let lj : j < arcs_around coords xs t f' u = y.there in
            let same = ap (λ z. arcs_around coords xs t z u) q in
            let wide = broad_is s k valid coords xs surface sign signs t v f u w x.in_range a in
            omega arith)
        | inr ne ↦ elim (one_of_rest v f u w f' a b.lu b.uf ne) [
          | inl q ↦ b.vu (sym q)
          | inr q ↦ across_edge (subst (λ z. Dart (arc_at t z u j) v w') q e) (subst (λ z. Four u z v w') q b)
        ]
      ]
    where
      across_edge : Dart (arc_at t w u j) v w' → Four u w v w' → ⊥
      across_edge e b =
          let a = d.four in
          elim (one_of_rest v f u w w' a b.lw (λ q. b.fw (sym q)) (λ q. opposed q)) [
            | inl q ↦ b.vw (sym q)
            | inr q ↦ b.uw (sym q)
          ]
        where
          opposed : w' ≡ f → ⊥
          opposed q =
              let a = d.four in
              let x = d.on in
              let y = e.on in
              let b' : Four u w v f = subst (λ z. Four u w v z) q b in
              let li : i < arcs_around coords xs t f v = x.there in
              let lj : j < arcs_around coords xs t w u = y.there in
              let one = arcs_are s.rows coords xs surface t x.in_range v f u w a in
              let two = arcs_are s.rows coords xs surface t x.in_range u w v f b' in
              let kind : keeping u w ≡ keeping v f = sym (opposite v f u w a) in
              let as_many = ap (behind coords xs t) kind in
              elim (cases_lt 0 (behind coords xs t (keeping v f))) [
                | inr none ↦ (let wide = broad_is s k valid coords xs surface sign signs t v f u w x.in_range a in
                    let back : Four u f v w = middle_two u v f w (first_two v u f w (middle_two v f u w a)) in
                    let three = arcs_are s.rows coords xs surface t x.in_range u f v w back in
                    omega arith)
                | inl some ↦ elim (cases_eq (type_of coords xs t (keeping v f)) (keeping v u)) [
                  | inl twice ↦ (let wide = broad_twice s k valid coords xs surface sign signs t v f u w x.in_range a some twice in omega arith)
                  | inr once ↦ (let wide = broad_once s k valid coords xs surface sign signs t v f u w x.in_range a some once in
                      let p : ℕ = i - tri coords xs t v in
                      let r : ℕ = j - tri coords xs t u in
                      let ei : tri coords xs t v + (i - tri coords xs t v) ≡ i = omega arith in
                      let ej : tri coords xs t u + (j - tri coords xs t u) ≡ j = omega arith in
                      let sum : (i - tri coords xs t v) + (j - tri coords xs t u) + 1 ≡ behind coords xs t (keeping v f) = omega arith in
                      let n : IsFar s.rows coords xs surface t x.in_range v f w u p r = far s.rows coords xs surface t x.in_range v f w u p r (last_two v f u w a) sum once in
                      let senses : sense s.rows coords xs surface sign signs (arc_at t w u (tri coords xs t u + r)) ≡ not (sense s.rows coords xs surface sign signs (arc_at t f v (tri coords xs t v + p))) =
                      ap (λ z. same_if (sign (disc_number xs z)) (looks_positive coords xs (arc_at t w u (tri coords xs t u + r)))) n.disc
                      ∙ side_not (sign (disc_number xs (disc_of coords xs (arc_at t f v (tri coords xs t v + p))))) (looks_positive coords xs (arc_at t f v (tri coords xs t v + p))) (looks_positive coords xs (arc_at t w u (tri coords xs t u + r))) n.side in
                      let as_placed : sense s.rows coords xs surface sign signs (arc_at t w u j) ≡ not (sense s.rows coords xs surface sign signs (arc_at t f v i)) =
                      ap (λ z. sense s.rows coords xs surface sign signs (arc_at t w u z)) (sym ej) ∙ senses ∙ ap (λ z. not (sense s.rows coords xs surface sign signs (arc_at t f v z))) ei in
                      not_itself (odd v f u w) (sym (odd_both v f u w a) ∙ ap (λ z. odd u w v z) (sym q) ∙ e.sensed ∙ as_placed ∙ ap not (sym d.sensed)))
                ]
              ]
