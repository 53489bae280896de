-- The double of a surface: its entries, arcs, Euler characteristic, and the discs of its arcs.
use Rattle.std.proofs.Common.{◌≡◌, ℕ, ◌+◌, ◌-◌, ◌*◌, ◌<◌, ◌+ℤ◌, Bool, true, false, List, [], ◌∷◌, length, inl, inr, refl, sym, ap, ◌∙◌, arith}
use Rattle.std.specs.Prelude.{slice_index, sum_by, sum, ◌||◌}
use Rattle.std.specs.List.{slice_index_or}
use Rattle.std.proofs.lemmas.Bool.{cases_lt, lt-ltb, le-ltb}
use Rattle.std.proofs.lemmas.Int.{ints}
use Rattle.cone_definitions.specs.Vectors.{multiple}
use Rattle.cone_definitions.proofs.Entries.{length-multiple, entry-multiple}
use Rattle.cone_definitions.proofs.Linear.{IsLinear}
use Rattle.table_definitions.specs.Lists.{below}
use Rattle.table_definitions.specs.Permutation.{others}
use Rattle.table_definitions.specs.Table.{Row}
use Rattle.table_definitions.proofs.Listed.{among_contains}
use Rattle.skeleton_definitions.specs.Links.{euler_of as euler}
use Rattle.skeleton_definitions.specs.Skeleton.{Skeleton}
use Rattle.surface_definitions.specs.Characteristic.{points, arcs}
use Rattle.surface_definitions.specs.Coordinates.{tri_column, quad_column, keeping, octagon_arcs, arc_columns, clash_list}
use Rattle.surface_definitions.specs.Equations.{matching, glued_pairs}
use Rattle.surface_definitions.specs.declared.Coords.{Coords}
use Rattle.surface_definitions.specs.Pieces.{NormalDisc, arcs_around, disc_of, type_in, keeps_by_zero, looks_positive}
use Rattle.surface_laws.specs.PieceLaws.{IsSurface, first_nonzero, reversed_if}
use Rattle.surface_laws.proofs.ArcPieces.{from_end, arcs_are, triangle_piece, behind_piece}
use Rattle.surface_laws.proofs.Matched.{pair_glued}
use Rattle.surface_laws.proofs.MeetingArcs.{arc_at}
use Rattle.surface_laws.proofs.PieceNumbers.{piece_at}
use Rattle.surface_laws.proofs.Solved.{solved, rows_zero, other_is}
use Rattle.surface_efficiency_laws.proofs.Measures.{columns_linear, arcs_linear, points_and_pieces, points_and_pieces_linear, pieces_are}
use Rattle.surface_euler_laws.proofs.Shapes.{first_test}
use Rattle.surface_vector_definitions.specs.Properties.{characteristic}

-- a linear number of the double
pub twice : (f : List ℕ → ℕ) → IsLinear f → (xs : List ℕ) → f (multiple 2 xs) ≡ 2 * f xs
twice f linear xs =
    let e : 1 * f (multiple 2 xs) ≡ 2 * f xs + 0 * f xs = linear.splits 1 2 0 (multiple 2 xs) xs xs (λ j. let h : slice_index (multiple 2 xs) j ≡ 2 * slice_index xs j = entry-multiple 2 xs j in omega arith) in
    omega arith

-- the disc of the double that is parallel to p, on the side of its smaller numbers or on the other
abbrev pub lift : NormalDisc → ℕ → NormalDisc
lift p k = piece_at p.column (2 * p.number + k)

-- the first column that is not 0 is the same
pub first_twice : (xs os : List ℕ) (q : ℕ) → first_nonzero (multiple 2 xs) os q ≡ first_nonzero xs os q
first_twice xs [] q = refl
first_twice xs (o ∷ os) q =
    let two : slice_index (multiple 2 xs) o ≡ 2 * slice_index xs o = entry-multiple 2 xs o in
    elim (cases_lt 0 (slice_index xs o)) [
      | inl some ↦ first_test (multiple 2 xs) o os q true (lt-ltb 0 (slice_index (multiple 2 xs) o) (omega arith)) ∙ sym (first_test xs o os q true (lt-ltb 0 (slice_index xs o) some))
      | inr none ↦ first_test (multiple 2 xs) o os q false (le-ltb 0 (slice_index (multiple 2 xs) o) (omega arith)) ∙ first_twice xs os q ∙ sym (first_test xs o os q false (le-ltb 0 (slice_index xs o) none))
    ]

from_end_double : (e : ℕ) (b : Bool) (i k : ℕ) → i < e → k < 2 → from_end (2 * e) b (2 * i + k) ≡ 2 * from_end e b i + reversed_if b k
from_end_double e true i k l m = refl
from_end_double e false i k l m = omega arith

module _ (rows : List Row) (coords : Coords) (xs : List ℕ) (w : IsSurface rows coords xs) where
  abbrev ys : List ℕ
  ys = multiple 2 xs

  abbrev n : ℕ
  n = length rows

  pub double_surface : IsSurface rows coords (multiple 2 xs)
  double_surface = record {
    table = w.table;
    triangles = w.triangles;
    solves = rows_zero rows coords ys w.table w.triangles
        (λ y v cy cv.
        let o : (v < 4) × (v ≡ (y.0).face → ⊥) = other_is (y.0).face v (among_contains v (others (y.0).face) cv) in
        let e = solved rows coords xs w.table w.triangles w.solves y.0 y.1 v (pair_glued rows y (among_contains y (glued_pairs rows) cy)) o.0 o.1 in
        sums (matching coords y.0 y.1 v).left ∙ ap (λ a. 2 * a) e ∙ sym (sums (matching coords y.0 y.1 v).right))
        (length-multiple 2 xs ∙ (w.solves).width);
    admissible = λ k d l. elim (w.admissible k d l) [
      | inl z ↦ inl (none (slice_index_or (clash_list coords (length rows)) k d).0 z)
      | inr z ↦ inr (none (slice_index_or (clash_list coords (length rows)) k d).1 z)
    ];
  }
    where
      sums : (cs : List ℕ) → sum_by (slice_index ys) cs ≡ 2 * sum_by (slice_index xs) cs
      sums cs = twice (λ zs. sum_by (slice_index zs) cs) (columns_linear cs) xs

      none : (c : ℕ) → slice_index xs c ≡ 0 → slice_index ys c ≡ 0
      none c z = let e : slice_index ys c ≡ 2 * slice_index xs c = entry-multiple 2 xs c in omega arith

  pub arcs_twice : (t f v : ℕ) → arcs_around coords (multiple 2 xs) t f v ≡ 2 * arcs_around coords xs t f v
  arcs_twice t f v = twice (λ zs. sum_by (slice_index zs) (arc_columns coords t f v)) (columns_linear (arc_columns coords t f v)) xs

  module _ (t f v : ℕ) (lt : t < n) (lf : f < 4) (lv : v < 4) (off : v ≡ f → ⊥) where
    abbrev tri : ℕ
    tri = tri_column coords t v

    abbrev col : ℕ
    col = first_nonzero xs (octagon_arcs coords t f v) (quad_column coords t (keeping v f))

    abbrev b : Bool
    b = keeps_by_zero (type_in coords col) v

    -- both arcs of the double that are parallel to an arc are of the discs parallel to its disc
    pub lifted : (j k : ℕ) → j < arcs_around coords xs t f v → k < 2 → disc_of coords (multiple 2 xs) (arc_at t f v (2 * j + k)) ≡ lift (disc_of coords xs (arc_at t f v j)) (reversed_if (looks_positive coords xs (arc_at t f v j)) k)
    lifted j k l lk = elim (cases_lt j (slice_index xs tri)) [
      | inl low ↦ (let e : slice_index ys tri ≡ 2 * slice_index xs tri = entry-multiple 2 xs tri in
          let positive : looks_positive coords xs (arc_at t f v j) ≡ true = ap (λ z. z || b) (lt-ltb j (slice_index xs tri) low) in
          triangle_piece coords n ys double_surface.triangles double_surface.admissible t f v lt lf lv off (2 * j + k) (omega arith)
          ∙ sym ((λ z. lift (triangle_piece coords n xs w.triangles w.admissible t f v lt lf lv off j low z) (reversed_if (positive z) k))))
      | inr high ↦ behind (j - slice_index xs tri) (omega arith)
    ]
      where
        behind : (i : ℕ) → slice_index xs tri + i ≡ j → disc_of coords (multiple 2 xs) (arc_at t f v (2 * j + k)) ≡ lift (disc_of coords xs (arc_at t f v j)) (reversed_if (looks_positive coords xs (arc_at t f v j)) k)
        behind i e =
            let m : ℕ = slice_index xs tri in
            let all : arcs_around coords xs t f v ≡ slice_index xs tri + slice_index xs col = arcs_are coords n xs w.triangles w.admissible t f v lt lf lv off xs (λ c z. z) in
            let li : i < slice_index xs col = omega arith in
            let tris : slice_index ys tri ≡ 2 * slice_index xs tri = entry-multiple 2 xs tri in
            let place : 2 * j + k ≡ slice_index ys tri + (2 * i + k) = omega arith in
            let same : first_nonzero ys (octagon_arcs coords t f v) (quad_column coords t (keeping v f)) ≡ col = first_twice xs (octagon_arcs coords t f v) (quad_column coords t (keeping v f)) in
            let is : disc_of coords xs (arc_at t f v j) ≡ piece_at col (from_end (slice_index xs col) b i) = ap (λ z. disc_of coords xs (arc_at t f v z)) (sym e) ∙ behind_piece coords n xs w.triangles w.admissible t f v lt lf lv off i in
            let positive : looks_positive coords xs (arc_at t f v j) ≡ b = ap (λ z. z || b) (le-ltb j (slice_index xs tri) (omega arith)) in
            ap (λ z. disc_of coords ys (arc_at t f v z)) place
            ∙ behind_piece coords n ys double_surface.triangles double_surface.admissible t f v lt lf lv off (2 * i + k)
            ∙ ap (λ c. piece_at c (from_end (slice_index ys c) (keeps_by_zero (type_in coords c) v) (2 * i + k))) same
            ∙ ap (λ q. piece_at col (from_end q b (2 * i + k))) (entry-multiple 2 xs col)
            ∙ ap (piece_at col) (from_end_double (slice_index xs col) b i k li lk)
            ∙ sym (λ z. lift (is z) (reversed_if (positive z) k))

double_euler : (p a r q b t : ℕ) → q + t ≡ 2 * (p + r) → b ≡ 2 * a → euler q b t ≡ euler p a r +ℤ euler p a r
double_euler p a r q b t e f = omega (arith, ints)

pub double_characteristic : (s : Skeleton) (coords : Coords) (xs : List ℕ) → characteristic s coords (multiple 2 xs) ≡ characteristic s coords xs +ℤ characteristic s coords xs
double_characteristic s coords xs =
    let n : ℕ = length xs in
    let a : sum_by (slice_index xs) (below (length xs)) ≡ sum xs = pieces_are s coords (length xs) xs refl in
    let b : sum_by (slice_index (multiple 2 xs)) (below (length xs)) ≡ sum (multiple 2 xs) = pieces_are s coords (length xs) (multiple 2 xs) (length-multiple 2 xs) in
    let c : points_and_pieces s coords (length xs) (multiple 2 xs) ≡ 2 * points_and_pieces s coords (length xs) xs = twice (points_and_pieces s coords (length xs)) (points_and_pieces_linear s coords (length xs)) xs in
    double_euler (points coords xs s.edges.classes s.edges.count) (arcs s.rows coords xs) (sum xs) (points coords (multiple 2 xs) s.edges.classes s.edges.count) (arcs s.rows coords (multiple 2 xs)) (sum (multiple 2 xs))
    (omega arith) (twice (λ zs. arcs s.rows coords zs) (arcs_linear s coords) xs)
