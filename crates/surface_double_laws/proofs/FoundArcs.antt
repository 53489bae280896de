-- Each piece has an arc.
use Rattle.std.proofs.Common.{◌≡◌, ◌≢◌, ℕ, zero, suc, ◌+◌, ◌-◌, ◌*◌, ◌/◌, ◌%◌, ◌<◌, ◌≤◌, true, false, List, [], ◌∷◌, length, ◌⊎◌, inl, inr, refl, sym, ap, ◌∙◌, subst, arith}
use Rattle.std.specs.Prelude.{slice_index}
use Rattle.std.proofs.lemmas.Bool.{cases_lt, lt-ltb, le-ltb}
use Rattle.cone_definitions.specs.Surfaces.{IsAdmissible}
use Rattle.table_definitions.specs.Table.{Row}
use Rattle.surface_definitions.specs.Coordinates.{tri_column, quad_column, oct_column, columns, keeping, clash_list}
use Rattle.surface_definitions.specs.declared.Coords.{Coords}
use Rattle.surface_definitions.specs.declared.Coords.TheVariants.{Standard, Quad, Octagon}
use Rattle.surface_definitions.specs.Pieces.{NormalDisc, Arc, disc_of}
use Rattle.surface_laws.specs.MatchingLaws.{HasTriangles}
use Rattle.surface_laws.specs.PieceLaws.{IsSurface, IsPieceOf, first_nonzero}
use Rattle.surface_laws.proofs.Clashes.{other_zero}
use Rattle.surface_laws.proofs.MeetingArcs.{arc_at}
use Rattle.surface_laws.proofs.PieceNumbers.{piece_at}
use Rattle.surface_euler_laws.proofs.Four.{Four, third, fourth, rest_four}
use Rattle.surface_euler_laws.proofs.Shapes.{behind_type, first_test}
use Rattle.surface_euler_laws.proofs.ArcList.{IsArc}
use Rattle.surface_double_laws.proofs.PieceArcs.{tri, behind, arcs_are, low_disc, high_disc}

-- a quad of type k keeps vertex 0 with vertex k + 1
kept_with_zero : (k : ℕ) → k < 3 → keeping 0 (suc k) ≡ k
kept_with_zero zero l = refl
kept_with_zero (suc zero) l = refl
kept_with_zero (suc (suc zero)) l = refl
kept_with_zero (suc (suc (suc k))) l = absurd (omega arith)

-- a face with a vertex
other_vertex : (v : ℕ) → v < 4 → (f : ℕ) × (f < 4) × (v ≢ f)
other_vertex zero l = (1, omega arith, λ e. absurd (omega arith))
other_vertex (suc v) l = (0, omega arith, λ e. absurd (omega arith))

-- ---- the kinds of columns that are not 0

-- a column of triangles, or that of the quads or octagons with arcs of a type
abbrev Kinds : Coords → ℕ → List ℕ → ℕ → Type 0
Kinds coords n xs c =
    ((t : ℕ) × (t < n) × ((v : ℕ) × (v < 4) × (tri_column coords t v ≡ c)))
    ⊎ ((t : ℕ) × (t < n) × ((k : ℕ) × (k < 3) × (behind_type coords xs t k ≡ c)))

module _ (n : ℕ) (xs : List ℕ) where
  both_zero : (a b q : ℕ) → slice_index xs a ≡ 0 → slice_index xs b ≡ 0 → first_nonzero xs (a ∷ b ∷ []) q ≡ q
  both_zero a b q x y = first_test xs a (b ∷ []) q false (le-ltb 0 (slice_index xs a) (omega arith)) ∙ first_test xs b [] q false (le-ltb 0 (slice_index xs b) (omega arith))

  first_some : (a b q : ℕ) → 0 < slice_index xs a → first_nonzero xs (a ∷ b ∷ []) q ≡ a
  first_some a b q l = first_test xs a (b ∷ []) q true (lt-ltb 0 (slice_index xs a) l)

  second_some : (a b q : ℕ) → slice_index xs a ≡ 0 → 0 < slice_index xs b → first_nonzero xs (a ∷ b ∷ []) q ≡ b
  second_some a b q x l = first_test xs a (b ∷ []) q false (le-ltb 0 (slice_index xs a) (omega arith)) ∙ first_test xs b [] q true (lt-ltb 0 (slice_index xs b) l)

  module _ (a : IsAdmissible (clash_list Octagon n) xs) (t : ℕ) (lt : t < n) where
    no_octagon : (c o : ℕ) → c ≢ oct_column Octagon t o → o < 3 → c < 10 * n → c / 10 ≡ t → 4 ≤ c % 10 → 0 < slice_index xs c → slice_index xs (oct_column Octagon t o) ≡ 0
    no_octagon c o ne lo lc tc hc some = other_zero Octagon n xs a c (oct_column Octagon t o) ne lc (omega arith) (omega arith) hc (omega arith) some

    beside_quads : (k o : ℕ) → k < 3 → o < 3 → 0 < slice_index xs (quad_column Octagon t k) → slice_index xs (oct_column Octagon t o) ≡ 0
    beside_quads k o l lo some = no_octagon (quad_column Octagon t k) o (λ e. absurd (omega arith)) lo (omega arith) (omega arith) (omega arith) some

    quads_behind : (k : ℕ) → k < 3 → 0 < slice_index xs (quad_column Octagon t k) → behind_type Octagon xs t k ≡ quad_column Octagon t k
    quads_behind zero l some = both_zero (oct_column Octagon t 1) (oct_column Octagon t 2) (quad_column Octagon t 0) (beside_quads 0 1 l (omega arith) some) (beside_quads 0 2 l (omega arith) some)
    quads_behind (suc zero) l some = both_zero (oct_column Octagon t 0) (oct_column Octagon t 2) (quad_column Octagon t 1) (beside_quads 1 0 l (omega arith) some) (beside_quads 1 2 l (omega arith) some)
    quads_behind (suc (suc zero)) l some = both_zero (oct_column Octagon t 0) (oct_column Octagon t 1) (quad_column Octagon t 2) (beside_quads 2 0 l (omega arith) some) (beside_quads 2 1 l (omega arith) some)
    quads_behind (suc (suc (suc k))) l some = absurd (omega arith)

    octagons_behind : (o : ℕ) → o < 3 → 0 < slice_index xs (oct_column Octagon t o) → (k : ℕ) × (k < 3) × (behind_type Octagon xs t k ≡ oct_column Octagon t o)
    octagons_behind zero l some = (1, omega arith, first_some (oct_column Octagon t 0) (oct_column Octagon t 2) (quad_column Octagon t 1) some)
    octagons_behind (suc zero) l some = (0, omega arith, first_some (oct_column Octagon t 1) (oct_column Octagon t 2) (quad_column Octagon t 0) some)
    octagons_behind (suc (suc zero)) l some = (
      0,
      omega arith,
      second_some (oct_column Octagon t 1) (oct_column Octagon t 2) (quad_column Octagon t 0)
          (no_octagon (oct_column Octagon t 2) 1 (λ e. absurd (omega arith)) (omega arith) (omega arith) (omega arith) (omega arith) some) some,
    )
    octagons_behind (suc (suc (suc o))) l some = absurd (omega arith)

  standard_kind : (c : ℕ) → c < columns Standard n → Kinds Standard n xs c
  standard_kind c lc = elim (cases_lt (c % 7) 4) [
    | inl l ↦ inl (c / 7, omega arith, (c % 7, l, omega arith))
    | inr l ↦ inr (c / 7, omega arith, (c % 7 - 4, omega arith, omega arith))
  ]

  -- an octagon column of tetrahedron t, by its type, and a quad column
  of_octagon : IsAdmissible (clash_list Octagon n) xs → (t o c : ℕ) → t < n → o < 3 → oct_column Octagon t o ≡ c → 0 < slice_index xs c → Kinds Octagon n xs c
  of_octagon a t o c lt lo at some =
      let k = octagons_behind a t lt o lo (subst (λ z. 0 < slice_index xs z) (sym at) some) in
      inr (t, lt, (k.0, k.1, k.2 ∙ at))

  of_quad : IsAdmissible (clash_list Octagon n) xs → (t k c : ℕ) → t < n → k < 3 → quad_column Octagon t k ≡ c → 0 < slice_index xs c → Kinds Octagon n xs c
  of_quad a t k c lt lk at some = inr (t, lt, (k, lk, quads_behind a t lt k lk (subst (λ z. 0 < slice_index xs z) (sym at) some) ∙ at))

  octagon_kind : IsAdmissible (clash_list Octagon n) xs → (c : ℕ) → c < columns Octagon n → 0 < slice_index xs c → Kinds Octagon n xs c
  octagon_kind a c lc some = elim (cases_lt (c % 10) 4) [
    | inl l ↦ inl (c / 10, omega arith, (c % 10, l, omega arith))
    | inr l ↦ elim (cases_lt (c % 10) 7) [
      | inl m ↦ of_quad a (c / 10) (c % 10 - 4) c (omega arith) (omega arith) (omega arith) some
      | inr m ↦ of_octagon a (c / 10) (c % 10 - 7) c (omega arith) (omega arith) (omega arith) some
    ]
  ]

  kind : (coords : Coords) → HasTriangles coords → IsAdmissible (clash_list coords n) xs → (c : ℕ) → c < columns coords n → 0 < slice_index xs c → Kinds coords n xs c
  kind Standard h a c l some = standard_kind c l
  kind Quad h a c l some = absurd h
  kind Octagon h a c l some = octagon_kind a c l some

module _ (rows : List Row) (coords : Coords) (xs : List ℕ) (s : IsSurface rows coords xs) where
  pub record HasArc (p : NormalDisc) : Type 0 where
    pub b : Arc
    pub here : IsArc rows coords xs s b
    pub is : disc_of coords xs b ≡ p

  arc_of_triangle : (t v j : ℕ) → t < length rows → v < 4 → j < tri coords xs t v → HasArc (piece_at (tri_column coords t v) j)
  arc_of_triangle t v j lt lv l =
      let f = other_vertex v lv in
      let r : Four v f.0 (third v f.0) (fourth v f.0) = rest_four v f.0 lv f.1 f.2 in
      let many = arcs_are rows coords xs s t lt v f.0 (third v f.0) (fourth v f.0) r in
      record {
        b = arc_at t f.0 v j;
        here = record { in_range = lt; face = f.1; is_vertex = lv; off = f.2; there = omega arith };
        is = low_disc rows coords xs s t lt v f.0 (third v f.0) (fourth v f.0) r j l;
      }

  further_arc : (t k j : ℕ) → t < length rows → k < 3 → j < behind coords xs t k → HasArc (piece_at (behind_type coords xs t k) j)
  further_arc t k j lt lk l =
      let kept : keeping 0 (suc k) ≡ k = kept_with_zero k lk in
      let off : 0 ≢ suc k = λ e. absurd (omega arith) in
      let lf : suc k < 4 = omega arith in
      let r : Four 0 (suc k) (third 0 (suc k)) (fourth 0 (suc k)) = rest_four 0 (suc k) (omega arith) lf off in
      let many = arcs_are rows coords xs s t lt 0 (suc k) (third 0 (suc k)) (fourth 0 (suc k)) r in
      let same = ap (behind coords xs t) kept in
      record {
        b = arc_at t (suc k) 0 (tri coords xs t 0 + j);
        here = record { in_range = lt; face = lf; is_vertex = omega arith; off = off; there = omega arith };
        is = high_disc rows coords xs s t lt 0 (suc k) (third 0 (suc k)) (fourth 0 (suc k)) r j ∙ ap (λ z. piece_at (behind_type coords xs t z) j) kept;
      }

  pub has_arc : (p : NormalDisc) → IsPieceOf xs p → HasArc p
  has_arc p h =
      let width : length xs ≡ columns coords (length rows) = (s.solves).width in
      let lc = h.column in
      let ln = h.number in
      by_kind (kind (length rows) xs coords s.triangles s.admissible p.column (subst (λ m. p.column < m) width lc) (omega arith))
    where
      by_kind : Kinds coords (length rows) xs p.column → HasArc p
      by_kind (inl (t, lt, (v, lv, e))) =
          subst HasArc (ap (λ c. piece_at c p.number) e) (arc_of_triangle t v p.number lt lv (subst (λ c. p.number < slice_index xs c) (sym e) h.number))
      by_kind (inr (t, lt, (k, lk, e))) =
          subst HasArc (ap (λ c. piece_at c p.number) e) (further_arc t k p.number lt lk (subst (λ c. p.number < slice_index xs c) (sym e) h.number))
