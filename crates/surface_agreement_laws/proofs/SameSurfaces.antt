-- A standard vector is a vertex surface if and only if its octagon vector is.
use Rattle.std.proofs.Common.{◌≡◌, ℕ, ◌*◌, ◌%◌, ◌<◌, ◌≤◌, true, inl, inr, List, length, slice_index, sym, subst, ◌∙◌, arith}
use Rattle.std.specs.Prelude.{◌↔◌, ◌&&◌, not, nat_lt}
use Rattle.std.specs.Int.{◌∣◌}
use Rattle.std.proofs.Math.Nat.{dvd-zero}
use Rattle.std.proofs.lemmas.Bool.{not_from_false, not-true, and_cases, and_left, and_right, ltb-false, le-ltb, le-leb, lt-leb, cases_lt, false≢true}
use Rattle.cone_definitions.specs.Vectors.{IsInside}
use Rattle.table_definitions.specs.Lists.{below}
use Rattle.table_definitions.proofs.TableLaws.{Among-below}
use Rattle.table_definitions.proofs.Listed.{below-among}
use Rattle.table_definitions.proofs.Tests.{list_all-among}
use Rattle.skeleton_definitions.specs.Skeleton.{Skeleton, IsSkeleton}
use Rattle.surface_definitions.specs.Coordinates.{columns, is_octagon}
use Rattle.surface_definitions.specs.declared.Coords.TheVariants.{Standard, Octagon}
use Rattle.surface_laws.proofs.LinkingLemmas.{all_test}
use Rattle.surface_quad_laws.specs.SolutionLaws.{IsStandardSolution}
use Rattle.surface_octagon_laws.specs.Laws.{IsOctagonSolution}
use Rattle.surface_octagon_laws.proofs.AsQuads.{match_as_quads}
use Rattle.surface_agreement_laws.specs.VertexSurfaces.{IsVertexSurfaceOf, in_octagons, has_no_octagon}
use Rattle.surface_agreement_laws.proofs.InOctagons.{AreSame, in_octagons_is, in_standard, in_standard_is, each_octagon, each_standard, at_none, nonzero_octagon, nonzero_standard, quads_for_none, inside_octagon, inside_standard, one_octagon}
use Rattle.surface_agreement_laws.proofs.SameClashes.{standard_admissible, octagon_admissible}

-- what the test for octagons decides
pub no_octagon : (n : ℕ) (xs : List ℕ) → length xs ≡ 10 * n → has_no_octagon xs ≡ true → (i : ℕ) → i < 10 * n → 7 ≤ i % 10 → slice_index xs i ≡ 0
no_octagon n xs w h i l high =
    let at : not (is_octagon Octagon i && nat_lt 0 (slice_index xs i)) ≡ true =
    list_all-among (λ c. not (is_octagon Octagon c && nat_lt 0 (slice_index xs c))) i (below (length xs)) h (Among-below i (length xs) (omega (arith, w))) in
    elim (and_cases (is_octagon Octagon i) (nat_lt 0 (slice_index xs i)) (not-true (is_octagon Octagon i && nat_lt 0 (slice_index xs i)) at)) [
      | inl other ↦ absurd (false≢true (sym other ∙ le-leb 7 (i % 10) high))
      | inr none ↦ (let low : slice_index xs i ≤ 0 = ltb-false 0 (slice_index xs i) none in omega arith)
    ]

pub no_octagon-test : (n : ℕ) (ys xs : List ℕ) → AreSame n ys xs → has_no_octagon xs ≡ true
no_octagon-test n ys xs same = all_test (λ c. not (is_octagon Octagon c && nat_lt 0 (slice_index xs c))) (below (length xs))
    (λ i a. let l : i < 10 * n = subst (λ m. i < m) same.octagon (below-among i (length xs) a) in
    not_from_false (is_octagon Octagon i && nat_lt 0 (slice_index xs i)) (elim (cases_lt (i % 10) 7) [
      | inl low ↦ and_left (is_octagon Octagon i) (nat_lt 0 (slice_index xs i)) (lt-leb 7 (i % 10) low)
      | inr high ↦ and_right (is_octagon Octagon i) (nat_lt 0 (slice_index xs i)) (let z : slice_index xs i ≡ 0 = at_none n ys xs same i l high in le-ltb 0 (slice_index xs i) (omega arith))
    ]))

module _ (s : Skeleton) (k : IsSkeleton s) where
  abbrev n : ℕ
  n = length s.rows

  solves : (ys xs : List ℕ) → AreSame n ys xs → IsOctagonSolution s xs ↔ IsStandardSolution s ys
  solves ys xs same = match_as_quads s k xs ys same.octagon (quads_for_none n ys xs same)

  module _ (ys xs : List ℕ) (same : AreSame n ys xs) where
    -- an octagon vector inside it is that of its triangles and quads
    same_within : (ws : List ℕ) → length ws ≡ 10 * n → IsInside ws xs → AreSame n (in_standard n ws) ws
    same_within ws w inside = in_standard_is n ws w (λ i l high. inside i (at_none n ys xs same i l high))

    pub octagon_vertex : IsVertexSurfaceOf s Standard ys → IsVertexSurfaceOf s Octagon xs
    octagon_vertex h = record {
      extreme = record {
        solution = (solves ys xs same).1 (h.extreme).solution;
        nonzero = nonzero_octagon n ys xs same (h.extreme).nonzero;
        least = λ ws sw some inside. let within = same_within ws sw.width inside in
            inside_octagon n ys xs (in_standard n ws) ws same within
            ((h.extreme).least (in_standard n ws) ((solves (in_standard n ws) ws within).0 sw) (nonzero_standard n (in_standard n ws) ws within some)
            (inside_standard n (in_standard n ws) ws ys xs within same inside));
      };
      admissible = octagon_admissible n ys xs same h.admissible;
      primitive = λ d divides. h.primitive d (each_standard n ys xs same (λ e. d ∣ e) (dvd-zero d) divides);
    }

    pub standard_vertex : IsVertexSurfaceOf s Octagon xs → IsVertexSurfaceOf s Standard ys
    standard_vertex h = record {
      extreme = record {
        solution = (solves ys xs same).0 (h.extreme).solution;
        nonzero = nonzero_standard n ys xs same (h.extreme).nonzero;
        least = λ zs sz some inside. let other = in_octagons_is n zs sz.width in
            inside_standard n ys xs zs (in_octagons n zs) same other
            ((h.extreme).least (in_octagons n zs) ((solves zs (in_octagons n zs) other).1 sz) (nonzero_octagon n zs (in_octagons n zs) other some)
            (inside_octagon n zs (in_octagons n zs) ys xs other same inside));
      };
      admissible = standard_admissible n ys xs same h.admissible;
      primitive = λ d divides. h.primitive d (each_octagon n ys xs same (λ e. d ∣ e) (dvd-zero d) divides);
    }

  pub vertices_in_octagons : (ys : List ℕ) → length ys ≡ columns Standard n → IsVertexSurfaceOf s Standard ys ↔ IsVertexSurfaceOf s Octagon (in_octagons n ys)
  vertices_in_octagons ys w = (octagon_vertex ys (in_octagons n ys) (in_octagons_is n ys w), standard_vertex ys (in_octagons n ys) (in_octagons_is n ys w))

  -- an octagon vertex surface with no octagon is its triangles and quads
  pub is_in_standard : (xs : List ℕ) → IsVertexSurfaceOf s Octagon xs → has_no_octagon xs ≡ true → AreSame n (in_standard n xs) xs
  is_in_standard xs h none = in_standard_is n xs ((h.extreme).solution).width (no_octagon n xs ((h.extreme).solution).width none)

  pub vertices_without_octagons : (xs : List ℕ) → (IsVertexSurfaceOf s Octagon xs × (has_no_octagon xs ≡ true)) ↔ ((ys : List ℕ) × IsVertexSurfaceOf s Standard ys × (in_octagons n ys ≡ xs))
  vertices_without_octagons xs = (
    (λ h. let same = is_in_standard xs h.0 h.1 in
        (in_standard n xs, standard_vertex (in_standard n xs) xs same h.0, one_octagon n (in_standard n xs) (in_octagons n (in_standard n xs)) xs (in_octagons_is n (in_standard n xs) same.standard) same)),
    (λ y. let same = in_octagons_is n y.0 ((y.1.extreme).solution).width in
        subst (λ ws. IsVertexSurfaceOf s Octagon ws × (has_no_octagon ws ≡ true)) y.2 (octagon_vertex y.0 (in_octagons n y.0) same y.1, no_octagon-test n y.0 (in_octagons n y.0) same)),
  )
