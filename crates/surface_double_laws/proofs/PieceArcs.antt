-- The arcs around a vertex in a face: those of the triangles there, and then those of quads or octagons of one type. At
-- each end of an arc the next arc of the piece is around the same vertex, or around the other end of the edge there.
use Rattle.std.proofs.Common.{◌≡◌, ◌≢◌, ℕ, ◌+◌, ◌-◌, ◌<◌, ◌≤◌, Bool, true, false, not, List, length, ◌⊎◌, inl, inr, sym, ap, ◌∙◌, subst, arith}
use Rattle.std.specs.Prelude.{slice_index, ◌||◌}
use Rattle.std.proofs.lemmas.Bool.{lt-ltb, le-ltb, cases_lt}
use Rattle.table_definitions.specs.Table.{Row}
use Rattle.surface_definitions.specs.Coordinates.{tri_column, keeping}
use Rattle.surface_definitions.specs.declared.Coords.{Coords}
use Rattle.surface_definitions.specs.Pieces.{arcs_around, disc_of, type_in, keeps_by_zero, looks_positive}
use Rattle.surface_laws.specs.PieceLaws.{IsSurface}
use Rattle.surface_laws.proofs.ArcPieces.{from_end, triangle_piece, behind_piece}
use Rattle.surface_laws.proofs.MeetingArcs.{arc_at}
use Rattle.surface_laws.proofs.PieceNumbers.{piece_at}
use Rattle.surface_euler_laws.proofs.Four.{Four, first_two, middle_two, last_two, opposite, either_way, other_type, type_below, kept_apart, one_of_types}
use Rattle.surface_euler_laws.proofs.Shapes.{behind_type, AreQuads, AreOctagons, shape}
use Rattle.surface_euler_laws.proofs.Widths.{arcs_by_type}

-- the same four vertices in other orders
pub round_four : (v f u w : ℕ) → Four v f u w → Four v u w f
round_four v f u w h = last_two v u f w (middle_two v f u w h)

pub over_four : (v f u w : ℕ) → Four v f u w → Four w u v f
over_four v f u w h = middle_two w v u f (first_two v w u f (middle_two v u w f (round_four v f u w h)))

-- the triangles around a vertex, and the number and type of the quads or octagons with arcs of type k
abbrev pub tri : Coords → List ℕ → ℕ → ℕ → ℕ
tri coords xs t v = slice_index xs (tri_column coords t v)

abbrev pub behind : Coords → List ℕ → ℕ → ℕ → ℕ
behind coords xs t k = slice_index xs (behind_type coords xs t k)

abbrev pub type_of : Coords → List ℕ → ℕ → ℕ → ℕ
type_of coords xs t k = type_in coords (behind_type coords xs t k)

-- the piece of an arc has arcs around v on both sides of the edge from v to w: a triangle, or an octagon that meets the
-- edge twice
abbrev pub StaysAt : Coords → List ℕ → ℕ → ℕ → ℕ → ℕ → ℕ → Type 0
StaysAt coords xs t v f w j = (j < tri coords xs t v) ⊎ (type_of coords xs t (keeping v f) ≡ keeping v w)

-- numbers that add up to one less than q are one number, counted from either end
from_other_end : (q : ℕ) (a b : Bool) (i j : ℕ) → b ≡ not a → i + j + 1 ≡ q → from_end q b j ≡ from_end q a i
from_other_end q true true i j e l = absurd cc
from_other_end q true false i j e l = omega arith
from_other_end q false true i j e l = omega arith
from_other_end q false false i j e l = absurd cc

module _ (rows : List Row) (coords : Coords) (xs : List ℕ) (s : IsSurface rows coords xs) (t : ℕ) (lt : t < length rows) where
  module _ (v f u w : ℕ) (four : Four v f u w) where
    pub arcs_are : arcs_around coords xs t f v ≡ tri coords xs t v + behind coords xs t (keeping v f)
    arcs_are = arcs_by_type rows coords xs s t f v lt four.lu four.lv four.vu

    pub low_disc : (j : ℕ) → j < tri coords xs t v → disc_of coords xs (arc_at t f v j) ≡ piece_at (tri_column coords t v) j
    low_disc j l = triangle_piece coords (length rows) xs s.triangles s.admissible t f v lt four.lu four.lv four.vu j l

    pub high_disc : (i : ℕ) → disc_of coords xs (arc_at t f v (tri coords xs t v + i))
        ≡ piece_at (behind_type coords xs t (keeping v f)) (from_end (behind coords xs t (keeping v f)) (keeps_by_zero (type_of coords xs t (keeping v f)) v) i)
    high_disc i = behind_piece coords (length rows) xs s.triangles s.admissible t f v lt four.lu four.lv four.vu i

    low_side : (j : ℕ) → j < tri coords xs t v → looks_positive coords xs (arc_at t f v j) ≡ true
    low_side j l = ap (λ b. b || keeps_by_zero (type_of coords xs t (keeping v f)) v) (lt-ltb j (tri coords xs t v) l)

    high_side : (j : ℕ) → tri coords xs t v ≤ j → looks_positive coords xs (arc_at t f v j) ≡ keeps_by_zero (type_of coords xs t (keeping v f)) v
    high_side j l = ap (λ b. b || keeps_by_zero (type_of coords xs t (keeping v f)) v) (le-ltb j (tri coords xs t v) l)

    module _ (some : 0 < behind coords xs t (keeping v f)) where
      kind : AreQuads (length rows) xs t lt coords (keeping v f) ⊎ AreOctagons (length rows) xs t lt coords (keeping v f)
      kind = shape (length rows) xs t lt coords s.triangles s.admissible (keeping v f) (type_below v f u w four) some

      pub type_low : type_of coords xs t (keeping v f) < 3
      type_low = elim kind [
        | inl a ↦ (let e = a.type_is in let l = type_below v f u w four in omega arith)
        | inr a ↦ (let e = a.type_is in let l = a.below_three in omega arith)
      ]

      -- octagons that meet the edge from v to w twice have arcs around v on both sides of it
      pub one_column : type_of coords xs t (keeping v f) ≡ keeping v w → behind_type coords xs t (keeping v u) ≡ behind_type coords xs t (keeping v f)
      one_column e = elim kind [
        | inl a ↦ absurd (other_type v f w u (last_two v f u w four) (sym a.type_is ∙ e))
        | inr a ↦ a.same (keeping v u) (type_below v u w f (round_four v f u w four)) (λ g. other_type v u w f (round_four v f u w four) (g ∙ sym a.type_is ∙ e))
      ]

      -- and other pieces do not
      pub none_behind : type_of coords xs t (keeping v f) ≢ keeping v w → behind coords xs t (keeping v u) ≡ 0
      none_behind ne = elim kind [
        | inl a ↦ a.no_other (keeping v u) (type_below v u w f (round_four v f u w four)) (λ g. other_type v f u w four (sym g))
        | inr a ↦ elim (one_of_types v f u w a.o four a.below_three) [
          | inl g ↦ absurd (a.separate g)
          | inr (inl g) ↦ ap (behind coords xs t) (sym g) ∙ a.none
          | inr (inr g) ↦ absurd (ne (a.type_is ∙ g))
        ]
      ]

  -- the arc of a piece around the same vertex
  pub record IsNear (v f u j : ℕ) : Type 0 where
    pub there : j < arcs_around coords xs t u v
    pub disc : disc_of coords xs (arc_at t u v j) ≡ disc_of coords xs (arc_at t f v j)
    pub side : looks_positive coords xs (arc_at t u v j) ≡ looks_positive coords xs (arc_at t f v j)
    pub type_same : (j < tri coords xs t v) ⊎ (type_of coords xs t (keeping v u) ≡ type_of coords xs t (keeping v f))

  placed_again : (m j : ℕ) → m ≤ j → m + (j - m) ≡ j
  placed_again m j l = omega arith

  pub near : (v f u w j : ℕ) → Four v f u w → j < arcs_around coords xs t f v → StaysAt coords xs t v f w j → IsNear v f u j
  near v f u w j four l stays = elim (cases_lt j (tri coords xs t v)) [
    | inl low ↦ (let many = arcs_are v u w f (round_four v f u w four) in
        record {
          there = omega arith;
          disc = low_disc v u w f (round_four v f u w four) j low ∙ sym (low_disc v f u w four j low);
          side = low_side v u w f (round_four v f u w four) j low ∙ sym (low_side v f u w four j low);
          type_same = inl low;
        })
    | inr high ↦ (let e : type_of coords xs t (keeping v f) ≡ keeping v w = elim stays [ inl a ↦ absurd (omega arith) | inr a ↦ a ] in
        let here = arcs_are v f u w four in
        let column : behind_type coords xs t (keeping v u) ≡ behind_type coords xs t (keeping v f) = one_column v f u w four (omega arith) e in
        let as_many = ap (slice_index xs) column in
        let many = arcs_are v u w f (round_four v f u w four) in
        record {
          there = omega arith;
          disc = subst (λ p. disc_of coords xs (arc_at t u v p) ≡ disc_of coords xs (arc_at t f v p)) (placed_again (tri coords xs t v) j high)
              (high_disc v u w f (round_four v f u w four) (j - tri coords xs t v)
              ∙ ap (λ c. piece_at c (from_end (slice_index xs c) (keeps_by_zero (type_in coords c) v) (j - tri coords xs t v))) column ∙ sym (high_disc v f u w four (j - tri coords xs t v)));
          side = high_side v u w f (round_four v f u w four) j high ∙ ap (λ c. keeps_by_zero (type_in coords c) v) column ∙ sym (high_side v f u w four j high);
          type_same = inr (ap (type_in coords) column);
        })
  ]

  -- the arc of a piece around the other end of the edge from v to w
  pub record IsFar (v f u w i j : ℕ) : Type 0 where
    pub kind_same : keeping w u ≡ keeping v f
    pub there : tri coords xs t w + j < arcs_around coords xs t u w
    pub disc : disc_of coords xs (arc_at t u w (tri coords xs t w + j)) ≡ disc_of coords xs (arc_at t f v (tri coords xs t v + i))
    pub side : looks_positive coords xs (arc_at t u w (tri coords xs t w + j)) ≡ not (looks_positive coords xs (arc_at t f v (tri coords xs t v + i)))

  pub far : (v f u w i j : ℕ) → Four v f u w → i + j + 1 ≡ behind coords xs t (keeping v f) → type_of coords xs t (keeping v f) ≢ keeping v w → IsFar v f u w i j
  far v f u w i j four l ne =
      let a : Four w u v f = over_four v f u w four in
      let o : ℕ = type_of coords xs t (keeping v f) in
      let kind : keeping w u ≡ keeping v f = sym (opposite v f u w four ∙ either_way u w v f (middle_two u v w f (first_two v u w f (round_four v f u w four)))) in
      let sides : keeps_by_zero (type_of coords xs t (keeping v f)) w ≡ not (keeps_by_zero (type_of coords xs t (keeping v f)) v) =
      kept_apart v w f u (type_of coords xs t (keeping v f)) (middle_two v f w u (last_two v f u w four)) (type_low v f u w four (omega arith)) ne in
      let many = arcs_are w u v f a in
      let as_many = ap (behind coords xs t) kind in
      record {
        kind_same = kind;
        there = omega arith;
        disc = high_disc w u v f a j
            ∙ ap (λ k. piece_at (behind_type coords xs t k) (from_end (behind coords xs t k) (keeps_by_zero (type_of coords xs t k) w) j)) kind
            ∙ ap (piece_at (behind_type coords xs t (keeping v f))) (from_other_end (behind coords xs t (keeping v f)) (keeps_by_zero (type_of coords xs t (keeping v f)) v) (keeps_by_zero (type_of coords xs t (keeping v f)) w) i j sides l)
            ∙ sym (high_disc v f u w four i);
        side = high_side w u v f a (tri coords xs t w + j) (omega arith) ∙ ap (λ k. keeps_by_zero (type_of coords xs t k) w) kind ∙ sides ∙ ap not (sym (high_side v f u w four (tri coords xs t v + i) (omega arith)));
      }
