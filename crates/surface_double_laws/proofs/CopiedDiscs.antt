-- Copies of a surface: the entries, the arcs and the discs of m times a surface.
use Rattle.std.proofs.Common.{◌≡◌, ℕ, ◌+◌, ◌-◌, ◌*◌, ◌<◌, ◌≤◌, Bool, true, false, List, [], ◌∷◌, length, inl, inr, refl, sym, ap, ◌∙◌, subst, arith}
use Rattle.std.specs.Prelude.{slice_index, sum_by, ◌||◌}
use Rattle.std.specs.List.{slice_index_or}
use Rattle.std.proofs.Math.Nat.{mul-zero}
use Rattle.std.proofs.lemmas.Bool.{cases_lt, lt-ltb, le-ltb}
use Rattle.cone_definitions.specs.Vectors.{multiple}
use Rattle.cone_definitions.proofs.Combined.{factor_zero}
use Rattle.cone_definitions.proofs.Entries.{length-multiple, entry-multiple}
use Rattle.cone_definitions.proofs.Linear.{IsLinear}
use Rattle.table_definitions.specs.Permutation.{others}
use Rattle.table_definitions.specs.Table.{Row}
use Rattle.table_definitions.proofs.Listed.{among_contains}
use Rattle.surface_definitions.specs.Coordinates.{tri_column, quad_column, keeping, octagon_arcs, arc_columns, clash_list}
use Rattle.surface_definitions.specs.Equations.{matching, glued_pairs}
use Rattle.surface_definitions.specs.declared.Coords.{Coords}
use Rattle.surface_definitions.specs.Pieces.{NormalDisc, arcs_around, disc_of, type_in, keeps_by_zero, looks_positive}
use Rattle.surface_laws.specs.PieceLaws.{IsSurface, first_nonzero}
use Rattle.surface_laws.proofs.ArcPieces.{from_end, arcs_are, triangle_piece, behind_piece}
use Rattle.surface_laws.proofs.Matched.{pair_glued}
use Rattle.surface_laws.proofs.MeetingArcs.{arc_at}
use Rattle.surface_laws.proofs.PieceNumbers.{piece_at}
use Rattle.surface_laws.proofs.Solved.{solved, rows_zero, other_is}
use Rattle.surface_efficiency_laws.proofs.Measures.{columns_linear}
use Rattle.surface_euler_laws.proofs.Shapes.{first_test}

-- ---- numbers

times_some : (m a : ℕ) → 1 ≤ m → 0 < a → 0 < m * a
times_some m a some l = elim (cases_lt 0 (m * a)) [
  | inl y ↦ y
  | inr none ↦ absurd (let z : a ≡ 0 = factor_zero m a some (omega arith) in omega arith)
]

inside_block : (m d j k : ℕ) → k < m → m * j + k < m * (d + 1 + j)
inside_block m d j k l = omega arith

-- a number of a block is below the end of all blocks
pub below_copies : (m j a k : ℕ) → j < a → k < m → m * j + k < m * a
below_copies m j a k l h =
    let e : a - 1 - j + 1 + j ≡ a = omega arith in
    subst (λ z. m * j + k < m * z) e (inside_block m (a - 1 - j) j k h)

reversed_block : (m d i k : ℕ) → k < m → m * (d + 1 + i) - 1 - (m * i + k) ≡ m * d + (m - 1 - k)
reversed_block m d i k l = omega arith

from_end_copies : (m e : ℕ) (b : Bool) (i k : ℕ) → i < e → k < m → from_end (m * e) b (m * i + k) ≡ m * from_end e b i + from_end m b k
from_end_copies m e true i k l h = refl
from_end_copies m e false i k l h =
    let z : e ≡ e - 1 - i + 1 + i = omega arith in
    ap (λ n. m * n - 1 - (m * i + k)) z ∙ reversed_block m (e - 1 - i) i k h

place_copies : (m t i j k : ℕ) → t + i ≡ j → m * j + k ≡ m * t + (m * i + k)
place_copies m t i j k e = omega (arith, ap (λ z. m * z) e)

-- ---- vectors

-- a linear number of m copies
pub times_many : (m : ℕ) (f : List ℕ → ℕ) → IsLinear f → (xs : List ℕ) → f (multiple m xs) ≡ m * f xs
times_many m f linear xs =
    let e : 1 * f (multiple m xs) ≡ m * f xs + 0 * f xs = linear.splits 1 m 0 (multiple m xs) xs xs (λ j. let h : slice_index (multiple m xs) j ≡ m * slice_index xs j = entry-multiple m xs j in omega arith) in
    omega arith

-- the copy of the disc p that has k others of the m copies on the side of smaller numbers
abbrev pub copy : ℕ → NormalDisc → ℕ → NormalDisc
copy m p k = piece_at p.column (m * p.number + k)

-- the first column that is not 0 is the same
first_many : (m : ℕ) → 1 ≤ m → (xs os : List ℕ) (q : ℕ) → first_nonzero (multiple m xs) os q ≡ first_nonzero xs os q
first_many m some xs [] q = refl
first_many m some xs (o ∷ os) q =
    let e : slice_index (multiple m xs) o ≡ m * slice_index xs o = entry-multiple m xs o in
    elim (cases_lt 0 (slice_index xs o)) [
      | inl l ↦ (let y : 0 < m * slice_index xs o = times_some m (slice_index xs o) some l in
          first_test (multiple m xs) o os q true (lt-ltb 0 (slice_index (multiple m xs) o) (omega arith)) ∙ sym (first_test xs o os q true (lt-ltb 0 (slice_index xs o) l)))
      | inr none ↦ (let z : slice_index xs o ≡ 0 = omega arith in
          let many : m * slice_index xs o ≡ 0 = ap (λ a. m * a) z ∙ mul-zero m in
          first_test (multiple m xs) o os q false (le-ltb 0 (slice_index (multiple m xs) o) (omega arith)) ∙ first_many m some xs os q ∙ sym (first_test xs o os q false (le-ltb 0 (slice_index xs o) none)))
    ]

module _ (m : ℕ) (rows : List Row) (coords : Coords) (xs : List ℕ) (w : IsSurface rows coords xs) where
  abbrev ys : List ℕ
  ys = multiple m xs

  abbrev n : ℕ
  n = length rows

  pub copies_surface : IsSurface rows coords (multiple m xs)
  copies_surface = record {
    table = w.table;
    triangles = w.triangles;
    solves = rows_zero rows coords ys w.table w.triangles
        (λ y v cy cv.
        let o : (v < 4) × (v ≡ (y.0).face → ⊥) = other_is (y.0).face v (among_contains v (others (y.0).face) cv) in
        let e = solved rows coords xs w.table w.triangles w.solves y.0 y.1 v (pair_glued rows y (among_contains y (glued_pairs rows) cy)) o.0 o.1 in
        sums (matching coords y.0 y.1 v).left ∙ ap (λ a. m * a) e ∙ sym (sums (matching coords y.0 y.1 v).right))
        (length-multiple m xs ∙ (w.solves).width);
    admissible = λ k d l. elim (w.admissible k d l) [
      | inl z ↦ inl (none (slice_index_or (clash_list coords (length rows)) k d).0 z)
      | inr z ↦ inr (none (slice_index_or (clash_list coords (length rows)) k d).1 z)
    ];
  }
    where
      sums : (cs : List ℕ) → sum_by (slice_index ys) cs ≡ m * sum_by (slice_index xs) cs
      sums cs = times_many m (λ zs. sum_by (slice_index zs) cs) (columns_linear cs) xs

      none : (c : ℕ) → slice_index xs c ≡ 0 → slice_index ys c ≡ 0
      none c z = entry-multiple m xs c ∙ ap (λ a. m * a) z ∙ mul-zero m

  pub arcs_many : (t f v : ℕ) → arcs_around coords (multiple m xs) t f v ≡ m * arcs_around coords xs t f v
  arcs_many t f v = times_many m (λ zs. sum_by (slice_index zs) (arc_columns coords t f v)) (columns_linear (arc_columns coords t f v)) xs

  module _ (some : 1 ≤ m) (t f v : ℕ) (lt : t < n) (lf : f < 4) (lv : v < 4) (off : v ≡ f → ⊥) where
    abbrev tri : ℕ
    tri = tri_column coords t v

    abbrev col : ℕ
    col = first_nonzero xs (octagon_arcs coords t f v) (quad_column coords t (keeping v f))

    abbrev b : Bool
    b = keeps_by_zero (type_in coords col) v

    -- all arcs of the copies that are parallel to an arc are of the copies of its disc
    pub copied : (j k : ℕ) → j < arcs_around coords xs t f v → k < m
        → disc_of coords (multiple m xs) (arc_at t f v (m * j + k)) ≡ copy m (disc_of coords xs (arc_at t f v j)) (from_end m (looks_positive coords xs (arc_at t f v j)) k)
    copied j k l lk = elim (cases_lt j (slice_index xs tri)) [
      | inl low ↦ (let e : slice_index ys tri ≡ m * slice_index xs tri = entry-multiple m xs tri in
          let within : m * j + k < m * slice_index xs tri = below_copies m j (slice_index xs tri) k low lk in
          let positive : looks_positive coords xs (arc_at t f v j) ≡ true = ap (λ z. z || b) (lt-ltb j (slice_index xs tri) low) in
          triangle_piece coords n ys copies_surface.triangles copies_surface.admissible t f v lt lf lv off (m * j + k) (omega arith)
          ∙ sym ((λ z. copy m (triangle_piece coords n xs w.triangles w.admissible t f v lt lf lv off j low z) (from_end m (positive z) k))))
      | inr high ↦ behind (j - slice_index xs tri) (omega arith)
    ]
      where
        behind : (i : ℕ) → slice_index xs tri + i ≡ j
            → disc_of coords (multiple m xs) (arc_at t f v (m * j + k)) ≡ copy m (disc_of coords xs (arc_at t f v j)) (from_end m (looks_positive coords xs (arc_at t f v j)) k)
        behind i e =
            let all : arcs_around coords xs t f v ≡ slice_index xs tri + slice_index xs col = arcs_are coords n xs w.triangles w.admissible t f v lt lf lv off xs (λ c z. z) in
            let li : i < slice_index xs col = omega arith in
            let tris : slice_index ys tri ≡ m * slice_index xs tri = entry-multiple m xs tri in
            let place : m * j + k ≡ slice_index ys tri + (m * i + k) = place_copies m (slice_index xs tri) i j k e ∙ ap (λ z. z + (m * i + k)) (sym tris) in
            let same : first_nonzero ys (octagon_arcs coords t f v) (quad_column coords t (keeping v f)) ≡ col = first_many m some xs (octagon_arcs coords t f v) (quad_column coords t (keeping v f)) in
            let is : disc_of coords xs (arc_at t f v j) ≡ piece_at col (from_end (slice_index xs col) b i) = ap (λ z. disc_of coords xs (arc_at t f v z)) (sym e) ∙ behind_piece coords n xs w.triangles w.admissible t f v lt lf lv off i in
            let positive : looks_positive coords xs (arc_at t f v j) ≡ b = ap (λ z. z || b) (le-ltb j (slice_index xs tri) (omega arith)) in
            ap (λ z. disc_of coords ys (arc_at t f v z)) place
            ∙ behind_piece coords n ys copies_surface.triangles copies_surface.admissible t f v lt lf lv off (m * i + k)
            ∙ ap (λ c. piece_at c (from_end (slice_index ys c) (keeps_by_zero (type_in coords c) v) (m * i + k))) same
            ∙ ap (λ q. piece_at col (from_end q b (m * i + k))) (entry-multiple m xs col)
            ∙ ap (piece_at col) (from_end_copies m (slice_index xs col) b i k li lk)
            ∙ sym (λ z. copy m (is z) (from_end m (positive z) k))
