-- The sides of a piece are a path around it, for each arc of the surface.
use Rattle.std.proofs.Common.{◌≡◌, ◌≢◌, ℕ, ◌+◌, ◌-◌, ◌%◌, ◌<◌, ◌≤◌, Bool, List, length, ◌⊎◌, inl, inr, refl, sym, ap, ◌∙◌, subst, arith}
use Rattle.std.specs.Prelude.{slice_index}
use Rattle.std.proofs.lemmas.Bool.{cases_lt, cases_eq}
use Rattle.skeleton_definitions.specs.Skeleton.{Skeleton, IsSkeleton, IsValidClass}
use Rattle.surface_definitions.specs.Coordinates.{columns_each, tri_column, quad_column, keeping, octagon_arcs}
use Rattle.surface_definitions.specs.declared.Coords.{Coords}
use Rattle.surface_definitions.specs.Pieces.{NormalDisc, arcs_around, type_in, keeps_by_zero}
use Rattle.surface_laws.specs.PieceLaws.{IsSurface, first_nonzero}
use Rattle.surface_laws.proofs.ArcPieces.{from_end, from_end_twice}
use Rattle.surface_laws.proofs.PieceNumbers.{piece_at}
use Rattle.surface_laws.proofs.ColumnKinds.{high_behind, low_triangle, one_triangle}
use Rattle.surface_euler_laws.proofs.Four.{Four, middle_two, last_two, other_type, type_below, one_of_types, one_of_rest}
use Rattle.surface_euler_laws.proofs.Shapes.{octagons_are, behind_type}
use Rattle.surface_euler_laws.proofs.Sides.{colour, piece, arcs_are, low_piece, high_piece, Kind, IsGood, arc_there, arc_is, far, end_colour}
use Rattle.surface_euler_laws.proofs.FurtherPieces.{IsFurther, further}

module _ (s : Skeleton) (k : IsSkeleton s) (valid : (c : ℕ) → c < s.edges.count → IsValidClass s c) (coords : Coords) (xs : List ℕ) (surface : IsSurface s.rows coords xs)
    (t : ℕ) (lt : t < length s.rows) (h : ℕ → Bool) where
  abbrev col_at : ℕ → ℕ → ℕ
  col_at v f = behind_type coords xs t (keeping v f)

  abbrev tri : ℕ → ℕ
  tri v = slice_index xs (tri_column coords t v)

  abbrev from_v : ℕ → ℕ → ℕ → ℕ → ℕ
  from_v col o i v = slice_index xs (tri_column coords t v) + from_end (slice_index xs col) (keeps_by_zero o v) i

  abbrev place : {v f j : ℕ} → IsFurther s k valid coords xs surface t lt h v f j → ℕ → ℕ
  place {v} {f} x a = from_v (col_at v f) x.o x.i a

  kind_of : (v f j : ℕ) (x : IsFurther s k valid coords xs surface t lt h v f j) → Kind s k valid coords xs surface t lt h (col_at v f) x.o x.i x.lo x.type_is x.li
  kind_of v f j x = elim x.kind [ inl e ↦ inl (ap (behind_type coords xs t) e) | inr g ↦ inr g ]

  -- the arcs of its piece
  same_piece : (v f u w j : ℕ) → Four v f u w → (x : IsFurther s k valid coords xs surface t lt h v f j) → (v' f' u' w' : ℕ) → Four v' f' u' w' → behind_type coords xs t (keeping v' f') ≡ col_at v f
      → piece s k valid coords xs surface t lt h f' v' (place x v') ≡ piece s k valid coords xs surface t lt h f v j
  same_piece v f u w j four x v' f' u' w' other e =
      arc_is s k valid coords xs surface t lt h (col_at v f) x.o x.i x.lo x.type_is x.li v' f' u' w' other e
      ∙ sym (arc_is s k valid coords xs surface t lt h (col_at v f) x.o x.i x.lo x.type_is x.li v f u w four refl)
      ∙ ap (piece s k valid coords xs surface t lt h f v) x.at_is

  in_range : (v f u w j : ℕ) → Four v f u w → (x : IsFurther s k valid coords xs surface t lt h v f j) → (v' f' u' w' : ℕ) → Four v' f' u' w' → behind_type coords xs t (keeping v' f') ≡ col_at v f → place x v' < arcs_around coords xs t f' v'
  in_range v f u w j four x v' f' u' w' other e = arc_there s k valid coords xs surface t lt h (col_at v f) x.o x.i x.lo x.type_is x.li v' f' u' w' other e

  -- the other sides of the piece of an arc have ends of one colour
  abbrev pub OthersAgree : ℕ → ℕ → ℕ → Type 0
  OthersAgree v f j =
      (v' f' u' w' j' : ℕ) → Four v' f' u' w' → j' < arcs_around coords xs t f' v' → piece s k valid coords xs surface t lt h f' v' j' ≡ piece s k valid coords xs surface t lt h f v j → (v' ≢ v) ⊎ (f' ≢ f)
      → colour s k valid coords xs surface t lt h v' u' j' ≡ colour s k valid coords xs surface t lt h v' w' j'

  abbrev c : ℕ → ℕ → ℕ → Bool
  c v u j = colour s k valid coords xs surface t lt h v u j

  -- if they have, the two ends of the arc have the same colour
  pub lead_round : (v f u w j : ℕ) → Four v f u w → j < arcs_around coords xs t f v → OthersAgree v f j → c v u j ≡ c v w j
  lead_round v f u w j four l others = elim (cases_lt j (tri v)) [
    | inl low ↦ (let one = triangle u f w (middle_two v f u w four) (λ q. four.uf (sym q)) low in
        let two = triangle w f u (middle_two v f w u (last_two v f u w four)) (λ q. four.uw (sym q)) low in
        sym two ∙ one)
    | inr high ↦ by_kind (further s k valid coords xs surface t lt h v f u w j four high l)
  ]
    where
      triangle : (f' a b : ℕ) → Four v f' a b → f' ≢ f → j < tri v → c v a j ≡ c v b j
      triangle f' a b four' ne low =
          let all = arcs_are s k valid coords xs surface t lt h v f' a b four' in
          others v f' a b j four' (omega arith) (low_piece s k valid coords xs surface t lt h v f' a b j four' low ∙ sym (low_piece s k valid coords xs surface t lt h v f u w j four low)) (inr ne)

      by_kind : IsFurther s k valid coords xs surface t lt h v f j → c v u j ≡ c v w j
      by_kind x = subst (λ z. c v u z ≡ c v w z) x.at_is (by_partner x.kind (one_of_types v f u w x.o four x.lo))
        where
          good : (v' : ℕ) → v' ≢ v → IsGood s k valid coords xs surface t lt h (col_at v f) x.o x.i x.lo x.type_is x.li v'
          good v' ne f' u' w' other e = others v' f' u' w' (place x v') other (in_range v f u w j four x v' f' u' w' other e) (same_piece v f u w j four x v' f' u' w' other e) (inl ne)

          way : (p a b : ℕ) → Four v p a b → x.o ≡ keeping v p → c v a (place x v) ≡ c v b (place x v)
          way p a b round e =
              far s k valid coords xs surface t lt h (col_at v f) x.o x.i x.lo x.type_is x.li x.once (kind_of v f j x) v p a b round e
              (good a (λ q. round.vf (sym q))) (good p (λ q. round.vu (sym q))) (good b (λ q. round.vw (sym q)))

          beside : (f' a b : ℕ) → Four v f' a b → f' ≢ f → behind_type coords xs t (keeping v f') ≡ col_at v f → c v a (place x v) ≡ c v b (place x v)
          beside f' a b other ne e = others v f' a b (place x v) other (in_range v f u w j four x v f' a b other e) (same_piece v f u w j four x v f' a b other e) (inr ne)

          by_partner : (x.o ≡ keeping v f) ⊎ ((j : ℕ) → j < 3 → j ≢ x.o → behind_type coords xs t j ≡ col_at v f)
              → (x.o ≡ keeping v f) ⊎ ((x.o ≡ keeping v u) ⊎ (x.o ≡ keeping v w)) → c v u (place x v) ≡ c v w (place x v)
          by_partner (inl e) d = way f u w four e
          by_partner (inr g) (inl e) = way f u w four e
          by_partner (inr g) (inr (inl e)) =
              let a : Four v u f w = middle_two v f u w four in
              let b : Four v w u f = middle_two v u w f (last_two v u f w a) in
              beside w u f b (λ q. four.uw (sym q)) (g (keeping v w) (type_below v w u f b) (λ q. other_type v w u f b (q ∙ e))) ∙ way u f w a e
          by_partner (inr g) (inr (inr e)) =
              let a : Four v w f u = middle_two v f w u (last_two v f u w four) in
              let b : Four v u w f = middle_two v w u f (last_two v w f u a) in
              sym (beside u w f b (λ q. four.uf (sym q)) (g (keeping v u) (type_below v u w f b) (λ q. other_type v u w f b (q ∙ e))) ∙ way w f u a e)

  -- if both ends of each arc of the tetrahedron have one colour, all arcs of a piece have the same
  module _ (all : (v f u w j : ℕ) → Four v f u w → j < arcs_around coords xs t f v → c v u j ≡ c v w j) where
    record HasPartner (o v : ℕ) : Type 0 where
      p : ℕ
      a : ℕ
      b : ℕ
      round : Four v p a b
      is : o ≡ keeping v p

    partner_of : (v f u w o : ℕ) → Four v f u w → o < 3 → HasPartner o v
    partner_of v f u w o four lo = elim (one_of_types v f u w o four lo) [
      | inl e ↦ record { p = f; a = u; b = w; round = four; is = e }
      | inr (inl e) ↦ record { p = u; a = f; b = w; round = middle_two v f u w four; is = e }
      | inr (inr e) ↦ record { p = w; a = f; b = u; round = middle_two v f w u (last_two v f u w four); is = e }
    ]

    pub one_colour_each : (v f u w j v' f' u' w' j' : ℕ) → Four v f u w → Four v' f' u' w' → j < arcs_around coords xs t f v → j' < arcs_around coords xs t f' v'
        → piece s k valid coords xs surface t lt h f v j ≡ piece s k valid coords xs surface t lt h f' v' j' → c v u j ≡ c v' u' j'
    one_colour_each v f u w j v' f' u' w' j' four four' l l' same = by_cases (cases_lt j (tri v)) (cases_lt j' (tri v'))
      where
        column : {p q : NormalDisc} → p ≡ q → p.column ≡ q.column
        column e = ap (λ (r : NormalDisc). r.column) e

        number : {p q : NormalDisc} → p ≡ q → p.number ≡ q.number
        number e = ap (λ (r : NormalDisc). r.number) e

        -- around one triangle
        round_one : (z y : ℕ) → z ≡ v → y ≡ j → Four z f' u' w' → j < tri v → c v u j ≡ c z u' y
        round_one z y e d other low =
            let o : Four v f' u' w' = subst (λ a. Four a f' u' w') e other in
            let back : c v u' j ≡ c z u' y = (λ i. c (sym e i) u' (sym d i)) in
            elim (cases_eq u' u) [
              | inl q ↦ ap (λ a. c v a j) (sym q) ∙ back
              | inr ne ↦ elim (one_of_rest v u f w u' (middle_two v f u w four) o.lf (λ q. o.vf (sym q)) ne) [
                | inl q ↦ (let x : Four v w u f = middle_two v u w f (last_two v u f w (middle_two v f u w four)) in
                    let r = arcs_are s k valid coords xs surface t lt h v w u f x in
                    all v w u f j x (omega arith) ∙ ap (λ a. c v a j) (sym q) ∙ back)
                | inr q ↦ all v f u w j four l ∙ ap (λ a. c v a j) (sym q) ∙ back
              ]
            ]

        separate : (a b a' b' u w : ℕ) → a < 4 → Four a' b' u w → tri_column coords t a ≡ behind_type coords xs t (keeping a' b') → ⊥
        separate a b a' b' u w la other e =
            let low : tri_column coords t a % columns_each coords < 4 = low_triangle coords t a surface.triangles la in
            let high : 4 ≤ first_nonzero xs (octagon_arcs coords t b' a') (quad_column coords t (keeping a' b')) % columns_each coords = high_behind coords xs t b' a' surface.triangles other.lu other.lv other.vu in
            let d : first_nonzero xs (octagon_arcs coords t b' a') (quad_column coords t (keeping a' b')) % columns_each coords ≡ behind_type coords xs t (keeping a' b') % columns_each coords =
            ap (λ os. first_nonzero xs os (quad_column coords t (keeping a' b')) % columns_each coords) (octagons_are coords t b' a') in
            let g : tri_column coords t a % columns_each coords ≡ behind_type coords xs t (keeping a' b') % columns_each coords = ap (λ z. z % columns_each coords) e in
            omega arith

        high_is : (v f u w j : ℕ) → Four v f u w → tri v ≤ j → piece s k valid coords xs surface t lt h f v j
            ≡ piece_at (col_at v f) (from_end (slice_index xs (col_at v f)) (keeps_by_zero (type_in coords (col_at v f)) v) (j - tri v))
        high_is v f u w j four low =
            let e : tri v + (j - tri v) ≡ j = omega arith in
            ap (piece s k valid coords xs surface t lt h f v) (sym e) ∙ high_piece s k valid coords xs surface t lt h v f u w (j - tri v) four

        both_high : IsFurther s k valid coords xs surface t lt h v f j → tri v' ≤ j' → c v u j ≡ c v' u' j'
        both_high x low =
            let is : piece_at (col_at v f) x.i ≡ piece_at (col_at v' f') (from_end (slice_index xs (col_at v' f')) (keeps_by_zero (type_in coords (col_at v' f')) v') (j' - tri v')) =
            sym (arc_is s k valid coords xs surface t lt h (col_at v f) x.o x.i x.lo x.type_is x.li v f u w four refl) ∙ ap (piece s k valid coords xs surface t lt h f v) x.at_is ∙ same ∙ high_is v' f' u' w' j' four' low in
            let there : col_at v' f' ≡ col_at v f = sym (column is) in
            let i_is : x.i ≡ from_end (slice_index xs (col_at v f)) (keeps_by_zero x.o v') (j' - tri v') =
            number is ∙ ap (λ z. from_end (slice_index xs z) (keeps_by_zero (type_in coords z) v') (j' - tri v')) there ∙ ap (λ z. from_end (slice_index xs (col_at v f)) (keeps_by_zero z v') (j' - tri v')) x.type_is in
            let m = arcs_are s k valid coords xs surface t lt h v' f' u' w' four' in
            let size = ap (slice_index xs) there in
            let lj : j' - tri v' < slice_index xs (col_at v f) = omega arith in
            let back : from_end (slice_index xs (col_at v f)) (keeps_by_zero x.o v') x.i ≡ j' - tri v' =
            ap (from_end (slice_index xs (col_at v f)) (keeps_by_zero x.o v')) i_is ∙ from_end_twice (slice_index xs (col_at v f)) (keeps_by_zero x.o v') (j' - tri v') lj in
            let at_is : place x v' ≡ j' = omega arith in
            let p : HasPartner x.o v = partner_of v f u w x.o four x.lo in
            let good : (a : ℕ) → IsGood s k valid coords xs surface t lt h (col_at v f) x.o x.i x.lo x.type_is x.li a = λ a f' u' w' other e. all a f' u' w' (place x a) other (in_range v f u w j four x a f' u' w' other e) in
            let one = end_colour s k valid coords xs surface t lt h (col_at v f) x.o x.i x.lo x.type_is x.li x.once (kind_of v f j x) good v p.p p.a p.b v f u w p.round p.is four refl in
            let two = end_colour s k valid coords xs surface t lt h (col_at v f) x.o x.i x.lo x.type_is x.li x.once (kind_of v f j x) good v p.p p.a p.b v' f' u' w' p.round p.is four' there in
            ap (c v u) (sym x.at_is) ∙ one ∙ sym two ∙ ap (c v' u') at_is

        by_cases : (j < tri v) ⊎ (tri v ≤ j) → (j' < tri v') ⊎ (tri v' ≤ j') → c v u j ≡ c v' u' j'
        by_cases (inl a) (inl b) =
            let e : piece_at (tri_column coords t v) j ≡ piece_at (tri_column coords t v') j' = sym (low_piece s k valid coords xs surface t lt h v f u w j four a) ∙ same ∙ low_piece s k valid coords xs surface t lt h v' f' u' w' j' four' b in
            let o = one_triangle coords t v t v' surface.triangles four.lv four'.lv (column e) in
            round_one v' j' (sym o.1) (sym (number e)) four' a
        by_cases (inl a) (inr b) = absurd (separate v f v' f' u' w' four.lv four' (column (sym (low_piece s k valid coords xs surface t lt h v f u w j four a) ∙ same ∙ high_is v' f' u' w' j' four' b)))
        by_cases (inr a) (inl b) = absurd (separate v' f' v f u w four'.lv four (column (sym (low_piece s k valid coords xs surface t lt h v' f' u' w' j' four' b) ∙ sym same ∙ high_is v f u w j four a)))
        by_cases (inr a) (inr b) = both_high (further s k valid coords xs surface t lt h v f u w j four a l) b
