-- Each arc is an arc of one piece, and the arcs around a vertex are as many as the pieces there.
use Rattle.std.proofs.Common.{◌≡◌, ℕ, ◌+◌, ◌-◌, ◌/◌, ◌<◌, Bool, true, false, List, ◌∷◌, length, inl, inr, refl, sym, ap, ◌∙◌, subst, arith}
use Rattle.std.specs.Prelude.{slice_index, sum_by, if◌then◌else◌}
use Rattle.std.proofs.lemmas.Bool.{cases_lt, lt-ltb, le-ltb}
use Rattle.std.proofs.lemmas.List.{get_or_past}
use Rattle.std.proofs.lemmas.List.Sums.{sum_by-cons}
use Rattle.cone_definitions.specs.Surfaces.{IsAdmissible}
use Rattle.table_definitions.specs.Lists.{below}
use Rattle.surface_definitions.specs.Coordinates.{columns_each, tri_column, quad_column, keeping, octagon_arcs, clash_list}
use Rattle.surface_definitions.specs.declared.Coords.{Coords}
use Rattle.surface_definitions.specs.Pieces.{NormalDisc, discs_of, arcs_around, type_in, keeps_by_zero, further_piece, disc_of, component_vector}
use Rattle.surface_laws.specs.MatchingLaws.{HasTriangles}
use Rattle.surface_laws.proofs.ColumnKinds.{triangle_in, behind_in}
use Rattle.surface_laws.proofs.MeetingArcs.{arc_at}
use Rattle.surface_laws.proofs.FurtherArcs.{one_further, further_one}
use Rattle.surface_laws.proofs.PieceNumbers.{piece_at}
use Rattle.surface_laws.specs.PieceLaws.{IsPieceOf, first_nonzero}
use Rattle.surface_laws.proofs.ComponentCounts.{belongs, in_column, component_count, component_inside}
use Rattle.surface_laws.proofs.Counting.{sum_by_same, below_sum, sum_back}
use Rattle.table_definitions.proofs.Listed.{below-among}

-- a column that has a piece is in range
pub in_width : (xs : List ℕ) (c k : ℕ) → k < slice_index xs c → c < length xs
in_width xs c k l = elim (cases_lt c (length xs)) [
  | inl inside ↦ inside
  | inr exceeded ↦ absurd (let z : slice_index xs c ≡ 0 = get_or_past xs c 0 exceeded in omega arith)
]

-- a number below `count`, counted from one end or from the other
abbrev pub from_end : ℕ → Bool → ℕ → ℕ
from_end count b j = if b then j else count - 1 - j

pub from_end_below : (count : ℕ) (b : Bool) (j : ℕ) → j < count → from_end count b j < count
from_end_below count true j l = l
from_end_below count false j l = omega arith

pub from_end_twice : (count : ℕ) (b : Bool) (j : ℕ) → j < count → from_end count b (from_end count b j) ≡ j
from_end_twice count true j l = refl
from_end_twice count false j l = omega arith

module _ (coords : Coords) (n : ℕ) (xs : List ℕ) (triangles : HasTriangles coords) (admissible : IsAdmissible (clash_list coords n) xs) where
  module _ (t f v : ℕ) (lt : t < n) (lf : f < 4) (lv : v < 4) (off : v ≡ f → ⊥) where
    abbrev pub tri : ℕ
    tri = tri_column coords t v

    abbrev pub behind : ℕ
    behind = first_nonzero xs (octagon_arcs coords t f v) (quad_column coords t (keeping v f))

    -- the arcs around v in any vector that is 0 in each column in which xs is 0
    pub arcs_are : (ys : List ℕ) → ((c : ℕ) → slice_index xs c ≡ 0 → slice_index ys c ≡ 0) → arcs_around coords ys t f v ≡ slice_index ys tri + slice_index ys behind
    arcs_are ys inside =
        let further : slice_index ys (quad_column coords t (keeping v f)) + sum_by (slice_index ys) (octagon_arcs coords t f v) ≡ slice_index ys behind =
        one_further xs ys inside (quad_column coords t (keeping v f)) (octagon_arcs coords t f v) (further_one coords n xs t f v triangles admissible lt lf lv off) in
        omega (arith, sum_by-cons (slice_index ys) tri (quad_column coords t (keeping v f) ∷ octagon_arcs coords t f v), sum_by-cons (slice_index ys) (quad_column coords t (keeping v f)) (octagon_arcs coords t f v))

    abbrev pub by_zero : Bool
    by_zero = keeps_by_zero (type_in coords behind) v

    piece_if : ℕ → Bool → NormalDisc
    piece_if k b = if b then piece_at tri k else further_piece xs behind (k - slice_index xs tri) by_zero

    pub triangle_piece : (k : ℕ) → k < slice_index xs tri → disc_of coords xs (arc_at t f v k) ≡ piece_at tri k
    unfolding piece_if
    triangle_piece k l = ap (piece_if k) (lt-ltb k (slice_index xs tri) l)

    pub behind_piece : (j : ℕ) → disc_of coords xs (arc_at t f v (slice_index xs tri + j)) ≡ piece_at behind (from_end (slice_index xs behind) by_zero j)
    unfolding piece_if
    behind_piece j =
        let less : slice_index xs tri + j - slice_index xs tri ≡ j = omega arith in
        ap (piece_if (slice_index xs tri + j)) (le-ltb (slice_index xs tri + j) (slice_index xs tri) (omega arith)) ∙ ap (λ i. further_piece xs behind i by_zero) less

    -- an arc is one of a piece
    pub arc_piece : (k : ℕ) → k < arcs_around coords xs t f v → IsPieceOf xs (disc_of coords xs (arc_at t f v k))
    arc_piece k l = elim (cases_lt k (slice_index xs tri)) [
      | inl low ↦ subst (IsPieceOf xs) (sym (triangle_piece k low)) (record { column = in_width xs tri k low; number = low })
      | inr high ↦ (let j : ℕ = k - slice_index xs tri in
          let whole : arcs_around coords xs t f v ≡ slice_index xs tri + slice_index xs behind = arcs_are xs (λ c z. z) in
          let lj : j < slice_index xs behind = omega arith in
          let again : slice_index xs tri + j ≡ k = omega arith in
          let inside : from_end (slice_index xs behind) by_zero j < slice_index xs behind = from_end_below (slice_index xs behind) by_zero j lj in
          subst (IsPieceOf xs) (sym (behind_piece j) ∙ ap (λ i. disc_of coords xs (arc_at t f v i)) again) (record { column = in_width xs behind (from_end (slice_index xs behind) by_zero j) inside; number = inside }))
    ]

    module _ (components : List ℕ) (one_each : length components ≡ length (discs_of xs)) (i : ℕ) where
      either_way : (b : Bool) → sum_by (λ j. belongs xs components i (piece_at behind (from_end (slice_index xs behind) b j))) (below (slice_index xs behind)) ≡ in_column xs components i behind
      either_way true = refl
      either_way false = sum_back (λ j. belongs xs components i (piece_at behind j)) (slice_index xs behind)

      -- the component's arcs are those of its pieces
      pub component_arcs : arcs_around coords (component_vector xs components i) t f v ≡ sum_by (λ k. belongs xs components i (disc_of coords xs (arc_at t f v k))) (below (arcs_around coords xs t f v))
      component_arcs =
          let ys : List ℕ = component_vector xs components i in
          let m : ℕ = slice_index xs tri in
          let e : ℕ = slice_index xs behind in
          let h : ℕ → ℕ = λ k. belongs xs components i (disc_of coords xs (arc_at t f v k)) in
          let limited : arcs_around coords ys t f v ≡ slice_index ys tri + slice_index ys behind = arcs_are ys (component_inside xs components one_each i) in
          let all : arcs_around coords xs t f v ≡ m + e = arcs_are xs (λ c z. z) in
          let low : sum_by h (below m) ≡ in_column xs components i tri =
          sum_by_same h (λ j. belongs xs components i (piece_at tri j)) (below m) (λ k a. ap (belongs xs components i) (triangle_piece k (below-among k m a))) in
          let high : sum_by (λ j. h (m + j)) (below e) ≡ in_column xs components i behind =
          sum_by_same (λ j. h (m + j)) (λ j. belongs xs components i (piece_at behind (from_end (slice_index xs behind) by_zero j))) (below e) (λ j a. ap (belongs xs components i) (behind_piece j)) ∙ either_way by_zero in
          let split : sum_by h (below (arcs_around coords xs t f v)) ≡ sum_by h (below m) + sum_by (λ j. h (m + j)) (below e) = ap (λ k. sum_by h (below k)) all ∙ below_sum h m e in
          let tris : slice_index ys tri ≡ in_column xs components i tri = component_count xs components one_each i tri in
          let rest : slice_index ys behind ≡ in_column xs components i behind = component_count xs components one_each i behind in
          limited ∙ (λ k. tris k + rest k) ∙ sym (split ∙ (λ k. low k + high k))

-- the tetrahedron of an arc is that of its piece's column
pub arc_in : (coords : Coords) (n : ℕ) (xs : List ℕ) (triangles : HasTriangles coords) (admissible : IsAdmissible (clash_list coords n) xs) (t f v k : ℕ) → t < n → f < 4 → v < 4 → (v ≡ f → ⊥)
    → (disc_of coords xs (arc_at t f v k)).column / columns_each coords ≡ t
arc_in coords n xs triangles admissible t f v k lt lf lv off = elim (cases_lt k (slice_index xs (tri_column coords t v))) [
  | inl less ↦ ap (λ (p : NormalDisc). p.column / columns_each coords) (triangle_piece coords n xs triangles admissible t f v lt lf lv off k less) ∙ triangle_in coords t v triangles lv
  | inr more ↦ (let j : ℕ = k - slice_index xs (tri_column coords t v) in
      let again : slice_index xs (tri_column coords t v) + j ≡ k = omega arith in
      ap (λ i. (disc_of coords xs (arc_at t f v i)).column / columns_each coords) (sym again)
      ∙ ap (λ (p : NormalDisc). p.column / columns_each coords) (behind_piece coords n xs triangles admissible t f v lt lf lv off j)
      ∙ behind_in coords xs t f v triangles lf lv off)
]
