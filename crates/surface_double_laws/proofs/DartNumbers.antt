-- The arcs of all faces by number: the darts of the surface. An arc of the surface counts twice among them.
use Rattle.std.proofs.Common.{◌≡◌, ℕ, zero, suc, ◌+◌, ◌*◌, ◌/◌, ◌%◌, ◌<◌, Bool, cond, List, length, map, inl, inr, refl, sym, ap, ◌∙◌, arith}
use Rattle.std.specs.Prelude.{slice_index, sum_by, ◌==◌}
use Rattle.std.specs.List.{slice_index_or}
use Rattle.std.proofs.lemmas.Bool.{cases_eq, eq-eqb, ne_eqb}
use Rattle.std.proofs.lemmas.List.{length-map}
use Rattle.std.proofs.lemmas.List.FromFn.{length-range_with_len, get_or-map-range_with_len}
use Rattle.basic_lemmas.proofs.Truths.{one_if}
use Rattle.table_definitions.specs.Lists.{below}
use Rattle.table_definitions.specs.Permutation.{four, others}
use Rattle.table_definitions.specs.Table.{Row, Face, glue, faces}
use Rattle.table_definitions.proofs.Faces.{face_at}
use Rattle.table_definitions.proofs.Listed.{below-among}
use Rattle.skeleton_definitions.specs.Links.{is_first_side}
use Rattle.skeleton_laws.proofs.Sums.{sum_by-filter, sum_blocks}
use Rattle.surface_definitions.specs.Characteristic.{arcs_in, arcs}
use Rattle.surface_definitions.specs.declared.Coords.{Coords}
use Rattle.surface_definitions.specs.Pieces.{NormalDisc, discs_of, disc_number, Arc, arcs_around}
use Rattle.surface_equation_laws.proofs.FaceSums.{sum_by-faces}
use Rattle.surface_laws.specs.PieceLaws.{IsSurface, IsPieceOf, face_of_arc}
use Rattle.surface_laws.proofs.Counting.{sum_by_same, sum_by-map, sum_by-flat_map, over_places, last_term}
use Rattle.surface_laws.proofs.MeetingArcs.{arc_at}
use Rattle.surface_laws.proofs.PieceNumbers.{piece_at, no_piece, of_column, piece_found, listed_piece, number-piece}
use Rattle.surface_euler_laws.proofs.ArcList.{IsArc}

module _ (rows : List Row) (coords : Coords) (xs : List ℕ) where
  abbrev n : ℕ
  n = length rows

  abbrev chosen : Bool → ℕ → ℕ
  chosen t m = cond t 0 m

  -- the arcs around vertex c % 4 of face c % 16 / 4 of tetrahedron c / 16
  abbrev many : ℕ → ℕ
  many c = chosen (c % 4 == c % 16 / 4) (arcs_around coords xs (c / 16) (c % 16 / 4) (c % 4))

  pub darts : List ℕ
  darts = map many (below (16 * n))

  abbrev pub dart_piece : Arc → NormalDisc
  dart_piece b = piece_at (16 * b.tet + (4 * b.face + b.vertex)) b.place

  abbrev arc_in : NormalDisc → Arc
  arc_in p = arc_at (p.column / 16) (p.column % 16 / 4) (p.column % 4) p.number

  -- the number of an arc, and the arc with a number
  pub number : Arc → ℕ
  number b = disc_number darts (dart_piece b)

  pub arc : ℕ → Arc
  arc d = arc_in (slice_index_or (discs_of darts) d no_piece)

  darts_width : length darts ≡ 16 * n
  unfolding darts
  darts_width = length-map (below (16 * n)) many ∙ length-range_with_len 0 (16 * n)

  entry : (c : ℕ) → c < 16 * n → slice_index darts c ≡ many c
  unfolding darts
  entry c l = get_or-map-range_with_len many 0 (16 * n) c c 0 l (omega arith)

  module _ (s : IsSurface rows coords xs) where
    there : (b : Arc) → IsArc rows coords xs s b → IsPieceOf darts (dart_piece b)
    there b x =
        let lt = x.in_range in
        let lf = x.face in
        let lv = x.is_vertex in
        let c : ℕ = 16 * b.tet + (4 * b.face + b.vertex) in
        let t : (16 * b.tet + (4 * b.face + b.vertex)) / 16 ≡ b.tet = omega arith in
        let f : (16 * b.tet + (4 * b.face + b.vertex)) % 16 / 4 ≡ b.face = omega arith in
        let v : (16 * b.tet + (4 * b.face + b.vertex)) % 4 ≡ b.vertex = omega arith in
        let w = darts_width in
        let e : slice_index darts (16 * b.tet + (4 * b.face + b.vertex)) ≡ arcs_around coords xs b.tet b.face b.vertex =
        entry (16 * b.tet + (4 * b.face + b.vertex)) (omega arith)
        ∙ (λ i. chosen (v i == f i) (arcs_around coords xs (t i) (f i) (v i)))
        ∙ ap (λ z. chosen z (arcs_around coords xs b.tet b.face b.vertex)) (ne_eqb b.vertex b.face x.off) in
        let inside : b.place < arcs_around coords xs b.tet b.face b.vertex = x.there in
        record { column = omega arith; number = omega arith }

    pub number_below : (b : Arc) → IsArc rows coords xs s b → number b < length (discs_of darts)
    unfolding number
    number_below b x = (piece_found darts (dart_piece b) (there b x)).in_range

    pub arc_number : (b : Arc) → IsArc rows coords xs s b → arc (number b) ≡ b
    unfolding arc number
    arc_number b x =
        let lf = x.face in
        let lv = x.is_vertex in
        let t : (16 * b.tet + (4 * b.face + b.vertex)) / 16 ≡ b.tet = omega arith in
        let f : (16 * b.tet + (4 * b.face + b.vertex)) % 16 / 4 ≡ b.face = omega arith in
        let v : (16 * b.tet + (4 * b.face + b.vertex)) % 4 ≡ b.vertex = omega arith in
        ap arc_in (piece_found darts (dart_piece b) (there b x)).there ∙ (λ i. arc_at (t i) (f i) (v i) b.place)

    pub number_arc : (d : ℕ) → d < length (discs_of darts) → number (arc d) ≡ d
    unfolding arc number
    number_arc d l =
        let p : NormalDisc = slice_index_or (discs_of darts) d no_piece in
        let c : 16 * ((slice_index_or (discs_of darts) d no_piece).column / 16) + (4 * ((slice_index_or (discs_of darts) d no_piece).column % 16 / 4) + (slice_index_or (discs_of darts) d no_piece).column % 4) ≡ (slice_index_or (discs_of darts) d no_piece).column = omega arith in
        ap (λ z. disc_number darts (piece_at z (slice_index_or (discs_of darts) d no_piece).number)) c ∙ number-piece darts d no_piece l

    pub arc_on : (d : ℕ) → d < length (discs_of darts) → IsArc rows coords xs s (arc d)
    unfolding arc
    arc_on d l =
        let p : NormalDisc = slice_index_or (discs_of darts) d no_piece in
        let h : IsPieceOf darts (slice_index_or (discs_of darts) d no_piece) = listed_piece darts d no_piece l in
        let lc : (slice_index_or (discs_of darts) d no_piece).column < length darts = h.column in
        let w = darts_width in
        let c : ℕ = (slice_index_or (discs_of darts) d no_piece).column in
        let e : slice_index darts (slice_index_or (discs_of darts) d no_piece).column ≡ many (slice_index_or (discs_of darts) d no_piece).column = entry (slice_index_or (discs_of darts) d no_piece).column (omega arith) in
        let some = h.number in
        elim (cases_eq (c % 4) (c % 16 / 4)) [
          | inl same ↦ absurd (let z : many (slice_index_or (discs_of darts) d no_piece).column ≡ 0 = ap (λ t. chosen t (arcs_around coords xs (c / 16) (c % 16 / 4) (c % 4))) (eq-eqb (c % 4) (c % 16 / 4) same) in omega arith)
          | inr off ↦ (let z : many (slice_index_or (discs_of darts) d no_piece).column ≡ arcs_around coords xs ((slice_index_or (discs_of darts) d no_piece).column / 16) ((slice_index_or (discs_of darts) d no_piece).column % 16 / 4) ((slice_index_or (discs_of darts) d no_piece).column % 4) =
              ap (λ t. chosen t (arcs_around coords xs (c / 16) (c % 16 / 4) (c % 4))) (ne_eqb (c % 4) (c % 16 / 4) off) in
              record { in_range = omega arith; face = omega arith; is_vertex = omega arith; off = off; there = omega arith })
        ]

    -- ---- those in the first of two glued faces are the arcs

    abbrev is_first : Face → Bool
    is_first x = is_first_side x (glue rows x)

    -- 1 if an arc is in the first of two glued faces
    unfoldable pub first_one : ℕ → ℕ
    first_one d = one_if (is_first_side (face_of_arc (arc d)) (glue rows (face_of_arc (arc d))))

    abbrev weight_of : NormalDisc → ℕ
    weight_of p = one_if (is_first (face_at (p.column / 16) (p.column % 16 / 4)))

    constant : (k m : ℕ) → sum_by (λ i. k) (below m) ≡ k * m
    constant k zero = omega arith
    constant k (suc m) = let e = last_term (λ i. k) m in let d = constant k m in omega arith

    abbrev weighted : ℕ → ℕ
    weighted c = one_if (is_first (face_at (c / 16) (c % 16 / 4))) * many c

    by_columns : sum_by first_one (below (length (discs_of darts))) ≡ sum_by weighted (below (16 * n))
    unfolding first_one arc
    by_columns =
        over_places weight_of first_one no_piece (discs_of darts) (λ i l. refl)
        ∙ sum_by-flat_map weight_of (of_column darts) (below (length darts))
        ∙ ap (λ m. sum_by (λ c. sum_by weight_of (of_column darts c)) (below m)) darts_width
        ∙ sum_by_same (λ c. sum_by weight_of (of_column darts c)) weighted (below (16 * n))
        (λ c a. sum_by-map weight_of (piece_at c) (below (slice_index darts c))
        ∙ constant (one_if (is_first (face_at (c / 16) (c % 16 / 4)))) (slice_index darts c)
        ∙ ap (λ m. one_if (is_first (face_at (c / 16) (c % 16 / 4))) * m) (entry c (below-among c (16 * n) a)))

    -- the sixteen columns of a tetrahedron
    sixteen : (b : ℕ → ℕ) (m : ℕ → ℕ → ℕ) → sum_by (λ j. b (j / 4) * chosen (j % 4 == j / 4) (m (j / 4) (j % 4))) (below 16) ≡ sum_by (λ f. b f * sum_by (m f) (others f)) four
    sixteen b m = omega arith

    in_tetrahedron : (t j : ℕ) → j < 16 → weighted (16 * t + j) ≡ one_if (is_first (face_at t (j / 4))) * chosen (j % 4 == j / 4) (arcs_around coords xs t (j / 4) (j % 4))
    in_tetrahedron t j l =
        let a : (16 * t + j) / 16 ≡ t = omega arith in
        let f : (16 * t + j) % 16 / 4 ≡ j / 4 = omega arith in
        let v : (16 * t + j) % 4 ≡ j % 4 = omega arith in
        λ i. one_if (is_first (face_at (a i) (f i))) * chosen (v i == f i) (arcs_around coords xs (a i) (f i) (v i))

    pub first_arcs : sum_by first_one (below (length (discs_of darts))) ≡ arcs rows coords xs
    first_arcs =
        by_columns ∙ sum_blocks weighted 16 n
        ∙ sum_by_same (λ t. sum_by (λ j. weighted (16 * t + j)) (below 16)) (λ t. sum_by (λ f. one_if (is_first (face_at t f)) * arcs_in coords xs (face_at t f)) four) (below n)
        (λ t a. sum_by_same (λ j. weighted (16 * t + j)) (λ j. one_if (is_first (face_at t (j / 4))) * chosen (j % 4 == j / 4) (arcs_around coords xs t (j / 4) (j % 4))) (below 16) (λ j b. in_tetrahedron t j (below-among j 16 b))
        ∙ sixteen (λ f. one_if (is_first (face_at t f))) (λ f v. arcs_around coords xs t f v))
        ∙ sym (sum_by-filter (arcs_in coords xs) is_first (faces n) ∙ sum_by-faces (λ x. one_if (is_first x) * arcs_in coords xs x) n)
