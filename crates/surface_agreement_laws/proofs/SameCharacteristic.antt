-- A standard vector and its octagon vector have the same Euler characteristic.
use Rattle.std.proofs.Common.{◌≡◌, ℕ, ◌+◌, ◌*◌, ◌/◌, ◌%◌, ◌<◌, List, [], ◌∷◌, length, filter, not, sum, refl, sym, ap, ◌∙◌, arith}
use Rattle.std.specs.Prelude.{◌==◌, sum_by, slice_index}
use Rattle.std.proofs.lemmas.List.Sums.{sum_by-cons}
use Rattle.table_definitions.specs.Classes.{least}
use Rattle.table_definitions.specs.Lists.{below}
use Rattle.table_definitions.specs.Permutation.{others}
use Rattle.table_definitions.specs.Table.{Row, Face, glue, faces}
use Rattle.table_definitions.proofs.Listed.{below-among, filter-among, map-among, faces-among}
use Rattle.skeleton_definitions.specs.Links.{is_first_side, euler_of as euler}
use Rattle.skeleton_definitions.specs.Skeleton.{Skeleton, IsSkeleton}
use Rattle.surface_definitions.specs.Characteristic.{weight, points, arcs_in, arcs}
use Rattle.surface_definitions.specs.Coordinates.{tri_column, quad_column, oct_column, keeping, three, octagon_arcs}
use Rattle.surface_definitions.specs.declared.Coords.TheVariants.{Standard, Octagon}
use Rattle.surface_definitions.specs.Pieces.{arcs_around}
use Rattle.surface_vector_definitions.specs.Properties.{characteristic}
use Rattle.surface_laws.proofs.ColumnKinds.{among_three}
use Rattle.surface_laws.proofs.Counting.{sum_by_same, sum_by-none, over_places, below_sum}
use Rattle.surface_laws.proofs.Solved.{other_is}
use Rattle.surface_laws.proofs.Turns.{keeping_below}
use Rattle.skeleton_laws.proofs.Sums.{sum_blocks}
use Rattle.surface_quad_laws.proofs.InnerEdges.{start_below}
use Rattle.surface_agreement_laws.proofs.EdgeArcs.{face_by, at_edge, IsFaceAt, face_at_edge}
use Rattle.surface_agreement_laws.proofs.InOctagons.{AreSame}
use Rattle.skeleton_class_laws.proofs.Cases.{low, high}

-- all pieces, column by column
by_columns : (xs : List ℕ) (n : ℕ) → length xs ≡ n → sum xs ≡ sum_by (slice_index xs) (below n)
by_columns xs n w = sym (over_places (λ (k : ℕ). k) (slice_index xs) 0 xs (λ i l. refl)) ∙ ap (λ m. sum_by (slice_index xs) (below m)) w

module _ (n : ℕ) (ys xs : List ℕ) (same : AreSame n ys xs) where
  same_triangle : (t v : ℕ) → t < n → v < 4 → slice_index xs (tri_column Octagon t v) ≡ slice_index ys (tri_column Standard t v)
  same_triangle t v lt lv = same.entries t v lt (omega arith)

  same_quad : (t k : ℕ) → t < n → k < 3 → slice_index xs (quad_column Octagon t k) ≡ slice_index ys (quad_column Standard t k)
  same_quad t k lt lk =
      let o : quad_column Octagon t k ≡ 10 * t + (4 + k) = omega arith in
      let i : 7 * t + (4 + k) ≡ quad_column Standard t k = omega arith in
      ap (slice_index xs) o ∙ same.entries t (4 + k) lt (omega arith) ∙ ap (slice_index ys) i

  no_octagon_arcs : (t f v : ℕ) → t < n → sum_by (slice_index xs) (octagon_arcs Octagon t f v) ≡ 0
  no_octagon_arcs t f v lt = sum_by-none (slice_index xs) (octagon_arcs Octagon t f v) (λ c a.
      let m = map-among (oct_column Octagon t) c (filter (λ j. not (j == keeping v f)) three) a in
      ap (slice_index xs) m.2 ∙ same.no_octagons t m.0 lt (among_three m.0 (filter-among (λ j. not (j == keeping v f)) m.0 three m.1).0))

  same_arcs_round : (t f v : ℕ) → t < n → f < 4 → v < 4 → (v ≡ f → ⊥) → arcs_around Octagon xs t f v ≡ arcs_around Standard ys t f v
  same_arcs_round t f v lt lf lv off =
      omega (
        arith,
        sum_by-cons (slice_index xs) (tri_column Octagon t v) (quad_column Octagon t (keeping v f) ∷ octagon_arcs Octagon t f v),
        sum_by-cons (slice_index xs) (quad_column Octagon t (keeping v f)) (octagon_arcs Octagon t f v),
        sum_by-cons (slice_index ys) (tri_column Standard t v) (quad_column Standard t (keeping v f) ∷ []),
        sum_by-cons (slice_index ys) (quad_column Standard t (keeping v f)) [],
        no_octagon_arcs t f v lt,
        same_triangle t v lt lv,
        same_quad t (keeping v f) lt (keeping_below v f lv lf off),
      )

  same_weight : (i : ℕ) → i < 6 * n → weight Octagon xs i ≡ weight Standard ys i
  same_weight i l =
      let le : i % 6 < 6 = omega arith in
      let lt : i / 6 < n = omega arith in
      let f : IsFaceAt (i % 6) = face_at_edge (i % 6) le in
      at_edge xs (i / 6) Octagon tt (i % 6) le
      ∙ (λ j. same_arcs_round (i / 6) (face_by (i % 6)) (low (i % 6)) lt f.face f.lower f.off_lower j + same_arcs_round (i / 6) (face_by (i % 6)) (high (i % 6)) lt f.face f.higher f.off_higher j)
      ∙ sym (at_edge ys (i / 6) Standard tt (i % 6) le)

  same_pieces : sum xs ≡ sum ys
  same_pieces =
      by_columns xs (10 * n) same.octagon ∙ sum_blocks (slice_index xs) 10 n
      ∙ sum_by_same (λ t. sum_by (λ j. slice_index xs (10 * t + j)) (below 10)) (λ t. sum_by (λ j. slice_index ys (7 * t + j)) (below 7)) (below n) (λ t a. at_tetrahedron t (below-among t n a))
      ∙ sym (by_columns ys (7 * n) same.standard ∙ sum_blocks (slice_index ys) 7 n)
    where
      at_tetrahedron : (t : ℕ) → t < n → sum_by (λ j. slice_index xs (10 * t + j)) (below 10) ≡ sum_by (λ j. slice_index ys (7 * t + j)) (below 7)
      at_tetrahedron t lt =
          let parts : sum_by (λ j. slice_index xs (10 * t + j)) (below 10) ≡ sum_by (λ j. slice_index xs (10 * t + j)) (below 7) + sum_by (λ j. slice_index xs (10 * t + (7 + j))) (below 3) =
          below_sum (λ j. slice_index xs (10 * t + j)) 7 3 in
          let first : sum_by (λ j. slice_index xs (10 * t + j)) (below 7) ≡ sum_by (λ j. slice_index ys (7 * t + j)) (below 7) =
          sum_by_same (λ j. slice_index xs (10 * t + j)) (λ j. slice_index ys (7 * t + j)) (below 7) (λ j a. same.entries t j lt (below-among j 7 a)) in
          let last : sum_by (λ j. slice_index xs (10 * t + (7 + j))) (below 3) ≡ 0 = sum_by-none (λ j. slice_index xs (10 * t + (7 + j))) (below 3)
          (λ j a. let i : 10 * t + (7 + j) ≡ 10 * t + 7 + j = omega arith in ap (slice_index xs) i ∙ same.no_octagons t j lt (below-among j 3 a)) in
          omega arith

  same_arcs : (rows : List Row) → length rows ≡ n → arcs rows Octagon xs ≡ arcs rows Standard ys
  same_arcs rows w = sum_by_same (arcs_in Octagon xs) (arcs_in Standard ys) (filter (λ x. is_first_side x (glue rows x)) (faces (length rows))) (λ (x : Face) a.
      let m = filter-among (λ x. is_first_side x (glue rows x)) x (faces (length rows)) a in
      let l = faces-among x (length rows) m.0 in
      let lt : x.tet < n = let h = l.0 in omega arith in
      sum_by_same (arcs_around Octagon xs x.tet x.face) (arcs_around Standard ys x.tet x.face) (others x.face) (λ v b. let o = other_is x.face v b in same_arcs_round x.tet x.face v lt l.1 o.0 o.1))

pub same_characteristic : (s : Skeleton) (ys xs : List ℕ) → IsSkeleton s → AreSame (length s.rows) ys xs → characteristic s Octagon xs ≡ characteristic s Standard ys
same_characteristic s ys xs k same = λ i. euler (at_points i) (same_arcs (length s.rows) ys xs same s.rows refl i) (same_pieces (length s.rows) ys xs same i)
  where
    at_points : points Octagon xs s.edges.classes s.edges.count ≡ points Standard ys s.edges.classes s.edges.count
    at_points = sum_by_same (λ c. weight Octagon xs (least s.edges.classes c)) (λ c. weight Standard ys (least s.edges.classes c)) (below s.edges.count)
        (λ c a. same_weight (length s.rows) ys xs same (least s.edges.classes c) (start_below s.rows k.table s.edges.classes s.edges.count k.edges c (below-among c s.edges.count a)))
