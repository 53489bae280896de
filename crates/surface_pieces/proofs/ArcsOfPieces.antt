-- Around a vertex of a face a piece has at most one arc: that with the piece's number, or that with this number counted
-- from the other end.
use Rattle.std.proofs.Common.{◌≡◌, ℕ, ◌+◌, ◌-◌, ◌/◌, ◌%◌, ◌<◌, ◌≤◌, Bool, List, length, inl, inr, refl, sym, ap, ◌∙◌, subst, arith}
use Rattle.std.specs.Prelude.{slice_index}
use Rattle.std.proofs.lemmas.Bool.{cases_lt}
use Rattle.cone_definitions.specs.Surfaces.{IsAdmissible}
use Rattle.surface_definitions.specs.Coordinates.{columns_each, tri_column, quad_column, keeping, octagon_arcs, clash_list}
use Rattle.surface_definitions.specs.declared.Coords.{Coords}
use Rattle.surface_definitions.proofs.ColumnCounts.{tet_below}
use Rattle.surface_definitions.specs.Pieces.{NormalDisc, Arc, arcs_around, type_in, keeps_by_zero, disc_of}
use Rattle.surface_laws.specs.MatchingLaws.{HasTriangles}
use Rattle.surface_laws.proofs.MeetingArcs.{arc_at}
use Rattle.surface_laws.proofs.ColumnKinds.{high_behind, low_triangle}
use Rattle.surface_laws.proofs.ArcPieces.{from_end, from_end_below, from_end_twice, arcs_are, triangle_piece, behind_piece}
use Rattle.surface_laws.proofs.PieceNumbers.{piece_at}
use Rattle.table_definitions.specs.Table.{Row}
use Rattle.surface_definitions.specs.Coordinates.{columns}
use Rattle.surface_laws.specs.PieceLaws.{IsSurface, first_nonzero}
use Rattle.surface_pieces.specs.Arcs.{IsArcOf, IsOnlyArcOf}

module _ (coords : Coords) (n : ℕ) (xs : List ℕ) (triangles : HasTriangles coords) (admissible : IsAdmissible (clash_list coords n) xs) (t f v : ℕ) (lt : t < n) (lf : f < 4) (lv : v < 4) (off : v ≡ f → ⊥) where
  abbrev pub tri : ℕ
  tri = tri_column coords t v

  abbrev pub across : ℕ
  across = first_nonzero xs (octagon_arcs coords t f v) (quad_column coords t (keeping v f))

  separate : tri ≡ across → ⊥
  separate e =
      let low : tri % columns_each coords < 4 = low_triangle coords t v triangles lv in
      let high : 4 ≤ across % columns_each coords = high_behind coords xs t f v triangles lf lv off in
      let same : tri % columns_each coords ≡ across % columns_each coords = ap (λ c. c % columns_each coords) e in
      omega arith

  abbrev by_zero : Bool
  by_zero = keeps_by_zero (type_in coords across) v

  all_arcs : arcs_around coords xs t f v ≡ slice_index xs tri + slice_index xs across
  all_arcs = arcs_are coords n xs triangles admissible t f v lt lf lv off xs (λ c z. z)

  column_is : (p q : NormalDisc) → p ≡ q → p.column ≡ q.column
  column_is p q e = ap (λ (r : NormalDisc). r.column) e

  number_is : (p q : NormalDisc) → p ≡ q → p.number ≡ q.number
  number_is p q e = ap (λ (r : NormalDisc). r.number) e

  module _ (p : NormalDisc) (here : t ≡ p.column / columns_each coords) (some : p.number < slice_index xs p.column) where
    -- another arc of the piece has the same index
    same_arc : (k : ℕ) → ((i : ℕ) → i < arcs_around coords xs t f v → disc_of coords xs (arc_at t f v i) ≡ p → i ≡ k) → (b : Arc) → IsArcOf coords xs p f v b → b ≡ arc_at t f v k
    same_arc k one b is =
        let tet : b.tet ≡ t = is.tet ∙ sym here in
        let whole : b ≡ arc_at t f v b.place = λ i. arc_at (tet i) (is.face i) (is.vertex i) b.place in
        let there : b.place < arcs_around coords xs t f v = subst (λ (a : Arc). b.place < arcs_around coords xs a.tet a.face a.vertex) whole is.there in
        whole ∙ ap (arc_at t f v) (one b.place there (sym (ap (disc_of coords xs) whole) ∙ is.piece))

    pub triangle_arc : p.column ≡ tri → IsOnlyArcOf coords xs p f v (arc_at t f v p.number)
    triangle_arc e =
        let low : p.number < slice_index xs tri = subst (λ c. p.number < slice_index xs c) e some in
        let same : piece_at tri p.number ≡ p = ap (λ c. piece_at c p.number) (sym e) in (
          record {
            tet = here;
            face = refl;
            vertex = refl;
            there = omega (arith, all_arcs);
            piece = triangle_piece coords n xs triangles admissible t f v lt lf lv off p.number low ∙ same;
          },
          same_arc p.number (λ i l d. elim (cases_lt i (slice_index xs tri)) [
            | inl less ↦ number_is (piece_at tri i) p (sym (triangle_piece coords n xs triangles admissible t f v lt lf lv off i less) ∙ d)
            | inr more ↦ (let j : ℕ = i - slice_index xs tri in
                let again : slice_index xs tri + j ≡ i = omega arith in
                absurd (separate (sym e ∙ sym (column_is (piece_at across (from_end (slice_index xs across) by_zero j)) p (sym (behind_piece coords n xs triangles admissible t f v lt lf lv off j) ∙ ap (λ k. disc_of coords xs (arc_at t f v k)) again ∙ d)))))
          ]),
        )

    pub further_arc : p.column ≡ across → IsOnlyArcOf coords xs p f v (arc_at t f v (slice_index xs tri + from_end (slice_index xs across) by_zero p.number))
    further_arc e =
        let low : p.number < slice_index xs across = subst (λ c. p.number < slice_index xs c) e some in
        let same : piece_at across p.number ≡ p = ap (λ c. piece_at c p.number) (sym e) in
        let inside : from_end (slice_index xs across) by_zero p.number < slice_index xs across = from_end_below (slice_index xs across) by_zero p.number low in (
          record {
            tet = here;
            face = refl;
            vertex = refl;
            there = omega (arith, all_arcs);
            piece = behind_piece coords n xs triangles admissible t f v lt lf lv off (from_end (slice_index xs across) by_zero p.number) ∙ ap (piece_at across) (from_end_twice (slice_index xs across) by_zero p.number low) ∙ same;
          },
          same_arc (slice_index xs tri + from_end (slice_index xs across) by_zero p.number) (λ i l d. elim (cases_lt i (slice_index xs tri)) [
            | inl less ↦ absurd (separate (column_is (piece_at tri i) p (sym (triangle_piece coords n xs triangles admissible t f v lt lf lv off i less) ∙ d) ∙ e))
            | inr more ↦ (let j : ℕ = i - slice_index xs tri in
                let again : slice_index xs tri + j ≡ i = omega arith in
                let lj : j < slice_index xs across = omega (arith, all_arcs) in
                let number : from_end (slice_index xs across) by_zero j ≡ p.number = number_is (piece_at across (from_end (slice_index xs across) by_zero j)) p (sym (behind_piece coords n xs triangles admissible t f v lt lf lv off j) ∙ ap (λ k. disc_of coords xs (arc_at t f v k)) again ∙ d) in
                let back : j ≡ from_end (slice_index xs across) by_zero p.number = sym (from_end_twice (slice_index xs across) by_zero j lj) ∙ ap (from_end (slice_index xs across) by_zero) number in
                omega arith)
          ]),
        )

-- the tetrahedron of a column of a surface
pub tet_in_range : (rows : List Row) (coords : Coords) (xs : List ℕ) (c t : ℕ) → IsSurface rows coords xs → c < length xs → t ≡ c / columns_each coords → t < length rows
tet_in_range rows coords xs c t s l e =
    let w : length xs ≡ columns coords (length rows) = (s.solves).width in
    let m : c < columns coords (length rows) = subst (λ k. c < k) w l in
    let b : c / columns_each coords < length rows = tet_below coords (length rows) c m in
    omega arith
