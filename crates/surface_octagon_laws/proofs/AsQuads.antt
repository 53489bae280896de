-- In each face the octagons have as many arcs as the quads that replace them.
use Rattle.std.proofs.Common.{◌≡◌, ℕ, ◌+◌, ◌<◌, not, List, [], ◌∷◌, length, filter, Some, sym, ◌∙◌, subst, arith}
use Rattle.std.specs.Prelude.{◌==◌, ◌↔◌, sum_by, slice_index}
use Rattle.std.proofs.lemmas.List.Sums.{sum_by-cons}
use Rattle.cone_definitions.specs.Rows.{Row as EquationRow, IsSolution}
use Rattle.table_definitions.specs.Permutation.{image, others}
use Rattle.table_definitions.specs.Table.{Gluing, Face, glue}
use Rattle.table_definitions.proofs.Listed.{among_contains}
use Rattle.table_definitions.proofs.PermutationLaws.{image_below, images_apart}
use Rattle.skeleton_definitions.specs.Skeleton.{Skeleton, IsSkeleton}
use Rattle.surface_definitions.specs.Coordinates.{columns, tri_column, quad_column, oct_column, keeping, three, octagon_arcs, arc_columns}
use Rattle.surface_definitions.specs.declared.Coords.TheVariants.{Standard, Quad, Octagon}
use Rattle.surface_definitions.specs.Equations.{Holds, glued_pairs, matching}
use Rattle.surface_definitions.specs.QuadEquations.{AreEquations}
use Rattle.surface_laws.proofs.Counting.{sum_by-map}
use Rattle.surface_laws.proofs.Glued.{IsGlued, glued_is}
use Rattle.surface_laws.proofs.Matched.{pair_glued}
use Rattle.surface_laws.proofs.Solved.{rows_zero, solved, other_is}
use Rattle.surface_laws.proofs.Turns.{keeping_below}
use Rattle.surface_quad_laws.specs.SolutionLaws.{IsStandardSolution}
use Rattle.surface_quad_laws.proofs.QuadRows.{quads_solve}
use Rattle.surface_octagon_laws.specs.QuadOctagons.{quads_and_octagons, other_types, HasQuadsForOctagons, SolvesQuadEquations}
use Rattle.surface_octagon_laws.specs.Laws.{IsOctagonSolution}
use Rattle.surface_octagon_laws.proofs.Entries.{standard_of, standard_is, same_quads, length-entries}

two_first : (g : ℕ → ℕ) (a b : ℕ) (rest : List ℕ) → sum_by g (a ∷ b ∷ rest) ≡ g a + (g b + sum_by g rest)
two_first g a b rest = omega (arith, sum_by-cons g a (b ∷ rest), sum_by-cons g b rest)

as_many : (a b r s q m : ℕ) → s ≡ r → a ≡ q → m ≡ b + r → a + (b + s) ≡ q + (m + 0)
as_many a b r s q m es eq em = omega arith

pub arcs_as_quads : (n : ℕ) (ys zs : List ℕ) → HasQuadsForOctagons n ys zs → (t f v : ℕ) → t < n → f < 4 → v < 4 → (v ≡ f → ⊥)
    → sum_by (slice_index ys) (arc_columns Octagon t f v) ≡ sum_by (slice_index zs) (arc_columns Standard t f v)
arcs_as_quads n ys zs h t f v lt lf lv off =
    let k : ℕ = keeping v f in
    let octagons : sum_by (slice_index ys) (octagon_arcs Octagon t f v) ≡ sum_by (λ j. slice_index ys (oct_column Octagon t j)) (other_types (keeping v f)) =
    sum_by-map (slice_index ys) (oct_column Octagon t) (filter (λ k. not (k == keeping v f)) three) in
    two_first (slice_index ys) (tri_column Octagon t v) (quad_column Octagon t k) (octagon_arcs Octagon t f v)
    ∙ as_many (slice_index ys (tri_column Octagon t v)) (slice_index ys (quad_column Octagon t k)) (sum_by (λ j. slice_index ys (oct_column Octagon t j)) (other_types k)) (sum_by (slice_index ys) (octagon_arcs Octagon t f v))
    (slice_index zs (tri_column Standard t v)) (slice_index zs (quad_column Standard t k)) octagons (sym (h.triangles t v lt lv)) (h.quads t k lt (keeping_below v f lv lf off))
    ∙ sym (two_first (slice_index zs) (tri_column Standard t v) (quad_column Standard t k) [])

module _ (s : Skeleton) (k : IsSkeleton s) where
  abbrev n : ℕ
  n = length s.rows

  -- an equation holds with the octagons if and only if it holds with the quads
  both_sides : (ys zs : List ℕ) → HasQuadsForOctagons n ys zs → (x : Face) (g : Gluing) (v : ℕ) → glue s.rows x ≡ Some g → v < 4 → (v ≡ x.face → ⊥) → Holds (matching Octagon x g v) ys ↔ Holds (matching Standard x g v) zs
  both_sides ys zs h x g v e lv off =
      let i : IsGlued s.rows x g = glued_is s.rows x g k.table e in
      let here : sum_by (slice_index ys) (arc_columns Octagon x.tet x.face v) ≡ sum_by (slice_index zs) (arc_columns Standard x.tet x.face v) = arcs_as_quads n ys zs h x.tet x.face v i.tet i.face lv off in
      let there : sum_by (slice_index ys) (arc_columns Octagon g.tet (image g.perm x.face) (image g.perm v)) ≡ sum_by (slice_index zs) (arc_columns Standard g.tet (image g.perm x.face) (image g.perm v)) =
      arcs_as_quads n ys zs h g.tet (image g.perm x.face) (image g.perm v) i.other_tet i.other_face (image_below g.perm v i.permutes lv) (images_apart g.perm v x.face i.permutes lv i.face off) in
      ((λ a. sym here ∙ a ∙ there), (λ a. here ∙ a ∙ sym there))

  pub match_as_quads : (ys zs : List ℕ) → length ys ≡ columns Octagon n → HasQuadsForOctagons n ys zs → IsOctagonSolution s ys ↔ IsStandardSolution s zs
  match_as_quads ys zs w h = (
    (λ solution. rows_zero s.rows Standard zs k.table tt
        (λ y v cy cv. let o = other_is (y.0).face v (among_contains v (others (y.0).face) cv) in
        let e : glue s.rows y.0 ≡ Some y.1 = pair_glued s.rows y (among_contains y (glued_pairs s.rows) cy) in
        (both_sides ys zs h y.0 y.1 v e o.0 o.1).0 (solved s.rows Octagon ys k.table tt solution y.0 y.1 v e o.0 o.1))
        h.width),
    (λ solution. rows_zero s.rows Octagon ys k.table tt
        (λ y v cy cv. let o = other_is (y.0).face v (among_contains v (others (y.0).face) cv) in
        let e : glue s.rows y.0 ≡ Some y.1 = pair_glued s.rows y (among_contains y (glued_pairs s.rows) cy) in
        (both_sides ys zs h y.0 y.1 v e o.0 o.1).1 (solved s.rows Standard zs k.table tt solution y.0 y.1 v e o.0 o.1))
        w),
  )

  pub standard_solves : (ys : List ℕ) → IsOctagonSolution s ys → IsStandardSolution s (standard_of n ys)
  standard_solves ys solution = (match_as_quads ys (standard_of n ys) solution.width (standard_is n ys)).0 solution

  pub entries_solve : (quad_rows : List EquationRow) (ys : List ℕ) → AreEquations Quad s.rows quad_rows → IsOctagonSolution s ys → SolvesQuadEquations n quad_rows (quads_and_octagons n ys)
  entries_solve quad_rows ys equations solution = record {
    width = length-entries n ys;
    solves = subst (IsSolution (columns Quad n) quad_rows) (same_quads n ys (standard_of n ys) (standard_is n ys))
        (quads_solve s.rows (standard_of n ys) k.table (standard_solves ys solution) quad_rows equations);
  }
