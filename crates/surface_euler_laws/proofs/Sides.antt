-- The sides of a piece are a path around it: if both ends of each other side have one colour, so have those of the
-- remaining side; and if all have, the piece has one colour.
use Rattle.std.proofs.Common.{◌≡◌, ◌≢◌, ℕ, ◌+◌, ◌-◌, ◌<◌, Bool, true, false, not, List, length, ◌⊎◌, inl, inr, sym, ap, ◌∙◌, subst, arith}
use Rattle.std.specs.Prelude.{slice_index}
use Rattle.std.proofs.lemmas.Bool.{cases_eq}
use Rattle.skeleton_definitions.specs.Skeleton.{Skeleton, IsSkeleton, IsValidClass}
use Rattle.surface_definitions.specs.Coordinates.{tri_column, quad_column, keeping}
use Rattle.surface_definitions.specs.declared.Coords.{Coords}
use Rattle.surface_definitions.specs.Pieces.{NormalDisc, arcs_around, type_in, keeps_by_zero, disc_of}
use Rattle.surface_laws.specs.PieceLaws.{IsSurface, first_nonzero}
use Rattle.surface_laws.proofs.ArcPieces.{from_end, from_end_below, from_end_twice, triangle_piece, behind_piece}
use Rattle.surface_laws.proofs.MeetingArcs.{arc_at}
use Rattle.surface_laws.proofs.PieceNumbers.{piece_at}
use Rattle.surface_euler_laws.proofs.Four.{Four, first_two, middle_two, last_two, opposite, either_way, other_type, type_below, one_of_types, kept_apart, one_of_rest}
use Rattle.surface_euler_laws.proofs.Shapes.{octagons_are, behind_type}
use Rattle.surface_euler_laws.proofs.Widths.{arcs_by_type, width}
use Rattle.surface_euler_laws.proofs.EdgeDirections.{IsEdge}
use Rattle.surface_euler_laws.proofs.Labels.{wide, wide_is, point, point_back}

module _ (s : Skeleton) (k : IsSkeleton s) (valid : (c : ℕ) → c < s.edges.count → IsValidClass s c) (coords : Coords) (xs : List ℕ) (surface : IsSurface s.rows coords xs)
    (t : ℕ) (lt : t < length s.rows) (h : ℕ → Bool) where
  -- the colour of the point with index j on the edge from v to u
  abbrev pub colour : ℕ → ℕ → ℕ → Bool
  colour v u j = h (point s k valid coords xs surface t v u j)

  abbrev pub tris : ℕ → ℕ
  tris v = slice_index xs (tri_column coords t v)

  abbrev pub behind : ℕ → ℕ
  behind i = behind_type coords xs t i

  abbrev pub piece : ℕ → ℕ → ℕ → NormalDisc
  piece f v j = disc_of coords xs (arc_at t f v j)

  pub arcs_are : (v f u w : ℕ) → Four v f u w → arcs_around coords xs t f v ≡ tris v + slice_index xs (behind (keeping v f))
  arcs_are v f u w four = arcs_by_type s.rows coords xs surface t f v lt four.lu four.lv four.vu

  pub low_piece : (v f u w j : ℕ) → Four v f u w → j < tris v → piece f v j ≡ piece_at (tri_column coords t v) j
  low_piece v f u w j four l = triangle_piece coords (length s.rows) xs surface.triangles surface.admissible t f v lt four.lu four.lv four.vu j l

  pub high_piece : (v f u w j : ℕ) → Four v f u w → piece f v (tris v + j)
      ≡ piece_at (behind (keeping v f)) (from_end (slice_index xs (behind (keeping v f))) (keeps_by_zero (type_in coords (behind (keeping v f))) v) j)
  high_piece v f u w j four =
      behind_piece coords (length s.rows) xs surface.triangles surface.admissible t f v lt four.lu four.lv four.vu j
      ∙ ap (λ os. let c : ℕ = first_nonzero xs os (quad_column coords t (keeping v f)) in piece_at c (from_end (slice_index xs c) (keeps_by_zero (type_in coords c) v) j)) (octagons_are coords t f v)

  -- ---- quads and octagons: piece i of a column, of type o

  module _ (col o i : ℕ) (lo : o < 3) (type_is : type_in coords col ≡ o) (li : i < slice_index xs col) where
    abbrev q : ℕ
    q = slice_index xs col

    -- its index among the arcs around vertex v
    abbrev pub at : ℕ → ℕ
    at v = tris v + from_end (slice_index xs col) (keeps_by_zero o v) i

    abbrev pub HasArc : ℕ → Type 0
    HasArc j = behind j ≡ col

    abbrev pub Once : Type 0
    Once = (v u f w : ℕ) → Four v u f w → o ≢ keeping v u → width s.rows coords xs surface t f v u ≡ tris v + tris u + slice_index xs col

    abbrev pub Kind : Type 0
    Kind = HasArc o ⊎ ((j : ℕ) → j < 3 → j ≢ o → HasArc j)

    pub arc_there : (v f u w : ℕ) → Four v f u w → HasArc (keeping v f) → at v < arcs_around coords xs t f v
    arc_there v f u w four e =
        let l = from_end_below (slice_index xs col) (keeps_by_zero o v) i li in
        let m = arcs_are v f u w four in
        let n = ap (slice_index xs) e in
        omega arith

    pub arc_is : (v f u w : ℕ) → Four v f u w → HasArc (keeping v f) → piece f v (at v) ≡ piece_at col i
    arc_is v f u w four e =
        high_piece v f u w (from_end (slice_index xs col) (keeps_by_zero o v) i) four
        ∙ ap (λ c. piece_at c (from_end (slice_index xs c) (keeps_by_zero (type_in coords c) v) (from_end (slice_index xs col) (keeps_by_zero o v) i))) e
        ∙ ap (λ z. piece_at col (from_end (slice_index xs col) (keeps_by_zero z v) (from_end (slice_index xs col) (keeps_by_zero o v) i))) type_is
        ∙ ap (piece_at col) (from_end_twice (slice_index xs col) (keeps_by_zero o v) i li)

    -- each of its arcs around v has ends of one colour
    abbrev pub IsGood : ℕ → Type 0
    IsGood v = (f u w : ℕ) → Four v f u w → HasArc (keeping v f) → colour v u (at v) ≡ colour v w (at v)

    module _ (once : Once) (kind : Kind) where
      opposite_ends : (v u : ℕ) → (m : ℕ) → keeps_by_zero o u ≡ not (keeps_by_zero o v) → m ≡ tris v + tris u + slice_index xs col → (at v < m) × (m - 1 - at v ≡ at u)
      opposite_ends v u m e f = go (keeps_by_zero o v) (keeps_by_zero o u) e
        where
          go : (b c : Bool) → c ≡ not b → (tris v + from_end (slice_index xs col) b i < m) × (m - 1 - (tris v + from_end (slice_index xs col) b i) ≡ tris u + from_end (slice_index xs col) c i)
          go true true e = absurd cc
          go true false e = (omega arith, omega arith)
          go false true e = (omega arith, omega arith)
          go false false e = absurd cc

      -- a corner of the piece, on the edge between v and u, read from either end
      turn : (v u f w : ℕ) → Four v u f w → o ≢ keeping v u → colour v u (at v) ≡ colour u v (at u)
      turn v u f w four ne =
          let e : IsEdge s k valid t v u = record { lt = lt; lv = four.lv; lu = four.lu; ne = four.vu } in
          let m : ℕ = wide s k valid coords xs surface t v u in
          let both = opposite_ends v u m (kept_apart v u f w o four lo ne) (wide_is s k valid coords xs surface t v u f w e four ∙ once v u f w four ne) in
          ap h (point_back s k valid coords xs surface t v u (at v) e both.0) ∙ ap (colour u v) both.1

      pub around : (v p u w : ℕ) → Four v p u w → o ≡ keeping v p → IsGood v → colour v u (at v) ≡ colour v w (at v)
      around v p u w four e good = elim kind [
        | inl quads ↦ good p u w four (ap behind (sym e) ∙ quads)
        | inr octagons ↦ (
            let a : Four v u p w = middle_two v p u w four in
            let b : Four v w p u = middle_two v p w u (last_two v p u w four) in
            let one = good u p w a (octagons (keeping v u) (type_below v u p w a) (λ q. other_type v u p w a (q ∙ e))) in
            let two = good w p u b (octagons (keeping v w) (type_below v w p u b) (λ q. other_type v w p u b (q ∙ e))) in
            sym two ∙ one)
      ]

      -- the type that keeps v and p on one side keeps u and w on the other
      pair_up : (v p u w : ℕ) → Four v p u w → Four u w v p
      pair_up v p u w four = middle_two u v w p (last_two u v p w (first_two v u p w (middle_two v p u w four)))

      off : (v p u w : ℕ) → Four v p u w → o ≡ keeping v p → o ≢ keeping v u
      off v p u w four e q = other_type v p u w four (sym e ∙ q)

      -- the path around the piece by the other vertices
      pub far : (v p u w : ℕ) → Four v p u w → o ≡ keeping v p → IsGood u → IsGood p → IsGood w → colour v u (at v) ≡ colour v w (at v)
      far v p u w four e gu gp gw =
          let at_u : Four u w v p = pair_up v p u w four in
          let at_p : Four p v u w = first_two v p u w four in
          let at_w : Four w u p v = first_two u w p v (last_two u w v p at_u) in
          let eu : o ≡ keeping u w = e ∙ opposite v p u w four in
          let ep : o ≡ keeping p v = e ∙ either_way v p u w four in
          let ew : o ≡ keeping w u = eu ∙ either_way u w v p at_u in
          let up : Four u w p v = last_two u w v p at_u in
          let pw : Four p v w u = last_two p v u w at_p in
          let wv : Four w u v p = last_two w u p v at_w in
          turn v u p w (middle_two v p u w four) (off v p u w four e)
          ∙ around u w v p at_u eu gu
          ∙ turn u p w v (middle_two u w p v up) (off u w p v up eu)
          ∙ around p v u w at_p ep gp
          ∙ turn p w v u (middle_two p v w u pw) (off p v w u pw ep)
          ∙ around w u p v at_w ew gw
          ∙ turn w v u p (middle_two w u v p wv) (off w u v p wv ew)

      module _ (good : (v : ℕ) → IsGood v) where
        at_same : (v p u w p' x y : ℕ) → Four v p u w → o ≡ keeping v p → Four v p' x y → o ≡ keeping v p' → colour v x (at v) ≡ colour v u (at v)
        at_same v p u w p' x y four e other d =
            let ne : x ≢ p = λ z. off v p' x y other d (e ∙ ap (keeping v) (sym z)) in
            elim (one_of_rest v p u w x four other.lf (λ z. other.vf (sym z)) ne) [
              | inl z ↦ ap (λ a. colour v a (at v)) z
              | inr z ↦ ap (λ a. colour v a (at v)) z ∙ sym (around v p u w four e (good v))
            ]

        pub one_colour : (v p u w v' p' x y : ℕ) → Four v p u w → o ≡ keeping v p → Four v' p' x y → o ≡ keeping v' p' → colour v' x (at v') ≡ colour v u (at v)
        one_colour v p u w v' p' x y four e other d = by_vertex (cases_eq v' v) (cases_eq v' p)
          where
            at_u : Four u w v p
            at_u = pair_up v p u w four

            eu : o ≡ keeping u w
            eu = e ∙ opposite v p u w four

            back : colour v u (at v) ≡ colour u v (at u)
            back = turn v u p w (middle_two v p u w four) (off v p u w four e)

            to : (z : ℕ) → v' ≡ z → Four z p' x y × (o ≡ keeping z p') × (colour v' x (at v') ≡ colour z x (at z))
            to z q = (subst (λ a. Four a p' x y) q other, d ∙ ap (λ a. keeping a p') q, ap (λ a. colour a x (at a)) q)

            by_vertex : (v' ≡ v) ⊎ (v' ≢ v) → (v' ≡ p) ⊎ (v' ≢ p) → colour v' x (at v') ≡ colour v u (at v)
            by_vertex (inl z) c = let m = to v z in m.2 ∙ at_same v p u w p' x y four e m.0 m.1
            by_vertex (inr a) (inl z) =
                let m = to p z in
                let at_p : Four p v u w = first_two v p u w four in
                let up : Four u w p v = last_two u w v p at_u in
                m.2 ∙ at_same p v u w p' x y at_p (e ∙ either_way v p u w four) m.0 m.1
                ∙ sym (turn u p w v (middle_two u w p v up) (off u w p v up eu)) ∙ sym (around u w v p at_u eu (good u)) ∙ sym back
            by_vertex (inr a) (inr b) = elim (one_of_rest v p u w v' four other.lv a b) [
              | inl z ↦ (let m = to u z in m.2 ∙ at_same u w v p p' x y at_u eu m.0 m.1 ∙ sym back)
              | inr z ↦ (let m = to w z in
                  let at_w : Four w u v p = first_two u w v p at_u in
                  let ew : o ≡ keeping w u = eu ∙ either_way u w v p at_u in
                  m.2 ∙ at_same w u v p p' x y at_w ew m.0 m.1 ∙ turn w v u p (middle_two w u v p at_w) (off w u v p at_w ew) ∙ sym (around v p u w four e (good v)))
            ]

        -- each end of each of its arcs has that colour
        pub end_colour : (v p u w v' f x y : ℕ) → Four v p u w → o ≡ keeping v p → Four v' f x y → HasArc (keeping v' f) → colour v' x (at v') ≡ colour v u (at v)
        end_colour v p u w v' f x y four e other there = elim (one_of_types v' f x y o other lo) [
          | inl d ↦ one_colour v p u w v' f x y four e other d
          | inr (inl d) ↦ good v' f x y other there ∙ one_colour v p u w v' x y f four e (last_two v' x f y (middle_two v' f x y other)) d
          | inr (inr d) ↦ one_colour v p u w v' y x f four e (last_two v' y f x (middle_two v' f y x (last_two v' f x y other))) d
        ]
