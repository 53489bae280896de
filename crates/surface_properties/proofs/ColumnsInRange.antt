-- The columns around a vertex of a face, and those along an edge, are columns of the vector.
use Rattle.std.proofs.Common.{◌≡◌, ◌≢◌, ℕ, zero, suc, ◌<◌, Bool, true, false, List, ◌∷◌, length, sym, subst, arith}
use Rattle.std.specs.Prelude.{All, slice_index, T, if◌then◌else◌}
use Rattle.std.specs.List.{AllByRecursion}
use Rattle.std.proofs.lemmas.List.Elements.{All-from_recursion}
use Rattle.table_definitions.specs.Places.{ends}
use Rattle.surface_definitions.specs.Coordinates.{has_triangles, columns, triangles_each, tri_column, quad_column, arc_columns}
use Rattle.surface_definitions.specs.Characteristic.{octagon_crossings, crossings}
use Rattle.surface_definitions.specs.declared.Coords.{Coords}
use Rattle.surface_laws.specs.MatchingLaws.{HasTriangles}
use Rattle.surface_laws.proofs.ColumnKinds.{of_octagon_crossings, column_below, quad_below, octagon_below}
use Rattle.surface_laws.proofs.Solved.{arcs_in_range}

triangles_of : (coords : Coords) → triangles_each coords ≡ 4 → HasTriangles coords
triangles_of coords = go (has_triangles coords)
  where
    go : (b : Bool) → ◌≡◌ {A = ℕ} (if b then 4 else 0) 4 → T b
    go true four = tt
    go false four = absurd (omega arith)

pub arcs_inside : (coords : Coords) (t f v n : ℕ) (xs : List ℕ) → triangles_each coords ≡ 4 → t < n → length xs ≡ columns coords n → f < 4 → v < 4 → v ≢ f → All (λ c. c < length xs) (arc_columns coords t f v)
arcs_inside coords t f v n xs four lt w lf lv off =
    subst (λ m. All (λ c. c < m) (arc_columns coords t f v)) (sym w)
    (All-from_recursion (λ c. c < columns coords n) (arc_columns coords t f v) (arcs_in_range coords n t f v (triangles_of coords four) lt lf lv off))

crossings_in : (coords : Coords) (n t e : ℕ) → HasTriangles coords → t < n → e < 6 → AllByRecursion (λ c. c < columns coords n) (crossings coords t (slice_index (ends e) 0) (slice_index (ends e) 1))
crossings_in coords n t e h lt = by_edge e
  where
    both : (a b j k o : ℕ) → a < 4 → b < 4 → j < 3 → k < 3 → o < 3
        → AllByRecursion (λ c. c < columns coords n) (tri_column coords t a ∷ tri_column coords t b ∷ quad_column coords t j ∷ quad_column coords t k ∷ octagon_crossings coords t o)
    both a b j k o la lb lj lk lo = (
      column_below coords h n t a lt la,
      (
        column_below coords h n t b lt lb,
        (
          quad_below coords n t j lt lj,
          (
            quad_below coords n t k lt lk,
            of_octagon_crossings (λ c. c < columns coords n) coords t o lo (λ i l. octagon_below coords n t i lt l),
          ),
        ),
      ),
    )

    by_edge : (e : ℕ) → e < 6 → AllByRecursion (λ c. c < columns coords n) (crossings coords t (slice_index (ends e) 0) (slice_index (ends e) 1))
    by_edge zero l = both 0 1 1 2 0 (omega arith) (omega arith) (omega arith) (omega arith) (omega arith)
    by_edge (suc zero) l = both 0 2 0 2 1 (omega arith) (omega arith) (omega arith) (omega arith) (omega arith)
    by_edge (suc (suc zero)) l = both 0 3 0 1 2 (omega arith) (omega arith) (omega arith) (omega arith) (omega arith)
    by_edge (suc (suc (suc zero))) l = both 1 2 0 1 2 (omega arith) (omega arith) (omega arith) (omega arith) (omega arith)
    by_edge (suc (suc (suc (suc zero)))) l = both 1 3 0 2 1 (omega arith) (omega arith) (omega arith) (omega arith) (omega arith)
    by_edge (suc (suc (suc (suc (suc zero))))) l = both 2 3 1 2 0 (omega arith) (omega arith) (omega arith) (omega arith) (omega arith)
    by_edge (suc (suc (suc (suc (suc (suc e)))))) l = absurd (omega arith)

pub crossings_inside : (coords : Coords) (t e n : ℕ) (xs : List ℕ) → triangles_each coords ≡ 4 → t < n → length xs ≡ columns coords n → e < 6
    → All (λ c. c < length xs) (crossings coords t (slice_index (ends e) 0) (slice_index (ends e) 1))
crossings_inside coords t e n xs four lt w le =
    subst (λ m. All (λ c. c < m) (crossings coords t (slice_index (ends e) 0) (slice_index (ends e) 1))) (sym w)
    (All-from_recursion (λ c. c < columns coords n) (crossings coords t (slice_index (ends e) 0) (slice_index (ends e) 1)) (crossings_in coords n t e (triangles_of coords four) lt le))
