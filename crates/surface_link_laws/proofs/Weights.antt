-- A vertex link meets an edge as often as the edge has ends at the class.
use Rattle.std.proofs.Common.{◌≡◌, ℕ, zero, suc, ◌+◌, ◌*◌, ◌/◌, ◌%◌, ◌<◌, List, ◌∷◌, ◌∙◌, arith}
use Rattle.std.specs.Prelude.{sum_by, slice_index}
use Rattle.std.proofs.lemmas.List.Sums.{sum_by-cons}
use Rattle.std.specs.List.{AllByRecursion}
use Rattle.table_definitions.proofs.Listed.{all_at}
use Rattle.skeleton_definitions.specs.Links.{vertex_number}
use Rattle.surface_definitions.specs.Coordinates.{tri_column, quad_column, oct_column}
use Rattle.surface_definitions.specs.Characteristic.{octagon_crossings, crossings, weight}
use Rattle.surface_definitions.specs.declared.Coords.{Coords}
use Rattle.surface_laws.specs.MatchingLaws.{HasTriangles}
use Rattle.surface_laws.proofs.ColumnKinds.{of_octagon_crossings, quad_below, quad_high, octagon_below, octagon_high}
use Rattle.surface_laws.proofs.Counting.{sum_by-none}
use Rattle.surface_quad_laws.specs.LinkLaws.{vertex_link}
use Rattle.surface_quad_laws.proofs.BareArcs.{IsBare}
use Rattle.surface_quad_laws.proofs.VertexLinks.{member, triangle-link}
use Rattle.surface_link_laws.proofs.Triangles.{link_bare}
use Rattle.skeleton_class_laws.proofs.Cases.{low, high, are_ends}

-- the ends of an edge of a tetrahedron
two_alone : (g : ℕ → ℕ) (a b : ℕ) (rest : List ℕ) → sum_by g rest ≡ 0 → sum_by g (a ∷ b ∷ rest) ≡ g a + g b
two_alone g a b rest z = omega (arith, sum_by-cons g a (b ∷ rest), sum_by-cons g b rest)

module _ (n : ℕ) (ys : List ℕ) (t : ℕ) (lt : t < n) (coords : Coords) (h : HasTriangles coords) (bare : IsBare coords n ys) where
  -- the columns at an edge that are no triangles
  none_further : (j k o : ℕ) → j < 3 → k < 3 → o < 3 → sum_by (slice_index ys) (quad_column coords t j ∷ quad_column coords t k ∷ octagon_crossings coords t o) ≡ 0
  none_further j k o lj lk lo =
      let at_j : slice_index ys (quad_column coords t j) ≡ 0 = bare (quad_column coords t j) (quad_below coords n t j lt lj) (quad_high coords h t j lj) in
      let at_k : slice_index ys (quad_column coords t k) ≡ 0 = bare (quad_column coords t k) (quad_below coords n t k lt lk) (quad_high coords h t k lk) in
      let octagons : AllByRecursion (λ c. slice_index ys c ≡ 0) (octagon_crossings coords t o) =
      of_octagon_crossings (λ c. slice_index ys c ≡ 0) coords t o lo (λ i l. bare (oct_column coords t i) (octagon_below coords n t i lt l) (octagon_high coords h t i l)) in
      let rest : sum_by (slice_index ys) (octagon_crossings coords t o) ≡ 0 =
      sum_by-none (slice_index ys) (octagon_crossings coords t o) (λ x a. all_at (λ c. slice_index ys c ≡ 0) (octagon_crossings coords t o) x octagons a) in
      omega (
        arith,
        at_j,
        at_k,
        rest,
        sum_by-cons (slice_index ys) (quad_column coords t j) (quad_column coords t k ∷ octagon_crossings coords t o),
        sum_by-cons (slice_index ys) (quad_column coords t k) (octagon_crossings coords t o),
      )

  ends_alone : (a b j k o : ℕ) → j < 3 → k < 3 → o < 3
      → sum_by (slice_index ys) (tri_column coords t a ∷ tri_column coords t b ∷ quad_column coords t j ∷ quad_column coords t k ∷ octagon_crossings coords t o)
      ≡ slice_index ys (tri_column coords t a) + slice_index ys (tri_column coords t b)
  ends_alone a b j k o lj lk lo =
      two_alone (slice_index ys) (tri_column coords t a) (tri_column coords t b) (quad_column coords t j ∷ quad_column coords t k ∷ octagon_crossings coords t o) (none_further j k o lj lk lo)

  pub crossed_ends : (e : ℕ) → e < 6
      → sum_by (slice_index ys) (crossings coords t (low e) (high e)) ≡ slice_index ys (tri_column coords t (low e)) + slice_index ys (tri_column coords t (high e))
  crossed_ends zero l = ends_alone 0 1 1 2 0 (omega arith) (omega arith) (omega arith)
  crossed_ends (suc zero) l = ends_alone 0 2 0 2 1 (omega arith) (omega arith) (omega arith)
  crossed_ends (suc (suc zero)) l = ends_alone 0 3 0 1 2 (omega arith) (omega arith) (omega arith)
  crossed_ends (suc (suc (suc zero))) l = ends_alone 1 2 0 1 2 (omega arith) (omega arith) (omega arith)
  crossed_ends (suc (suc (suc (suc zero)))) l = ends_alone 1 3 0 2 1 (omega arith) (omega arith) (omega arith)
  crossed_ends (suc (suc (suc (suc (suc zero))))) l = ends_alone 2 3 1 2 0 (omega arith) (omega arith) (omega arith)
  crossed_ends (suc (suc (suc (suc (suc (suc e)))))) l = absurd (omega arith)

pub weight-link : (n : ℕ) (classes : List ℕ) (c : ℕ) (coords : Coords) → HasTriangles coords → (i : ℕ) → i < 6 * n
    → weight coords (vertex_link coords n classes c) i ≡ member classes c (vertex_number (i / 6) (low (i % 6))) + member classes c (vertex_number (i / 6) (high (i % 6)))
weight-link n classes c coords h i l =
    let lt : i / 6 < n = omega arith in
    let le : i % 6 < 6 = omega arith in
    let e = are_ends (i % 6) le in
    crossed_ends n (vertex_link coords n classes c) (i / 6) lt coords h (link_bare n classes c coords h) (i % 6) le
    ∙ (λ j. triangle-link n classes c coords (i / 6) (low (i % 6)) h lt e.lower j + triangle-link n classes c coords (i / 6) (high (i % 6)) h lt e.higher j)
