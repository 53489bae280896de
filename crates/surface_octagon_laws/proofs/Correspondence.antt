-- If all links are spheres or discs, quad-octagon solutions and octagon solutions correspond.
use Rattle.std.proofs.Common.{◌≡◌, ℕ, ◌*◌, List, length, sym, ap, ◌∙◌, subst}
use Rattle.std.specs.Prelude.{◌↔◌, slice_index}
use Rattle.cone_definitions.specs.Rows.{Row as EquationRow}
use Rattle.cone_definitions.specs.Surfaces.{IsAdmissible}
use Rattle.skeleton_definitions.specs.Skeleton.{Skeleton, IsSkeleton}
use Rattle.skeleton_definitions.specs.declared.Link.{Link}
use Rattle.surface_definitions.specs.Coordinates.{clash_list, tri_column}
use Rattle.surface_definitions.specs.declared.Coords.TheVariants.{Standard, Quad, Octagon}
use Rattle.surface_definitions.specs.Lift.{projected}
use Rattle.surface_definitions.specs.QuadEquations.{AreEquations}
use Rattle.surface_laws.specs.LiftLaws.{IsLiftOf}
use Rattle.surface_laws.proofs.Lifts.{one_lift}
use Rattle.surface_quad_laws.specs.LinkLaws.{IsCanonical}
use Rattle.surface_quad_laws.proofs.Lifted.{lifted_are_quads}
use Rattle.surface_quad_lift_laws.specs.Laws.{HasSphereAndDiscLinks}
use Rattle.surface_quad_lift_laws.proofs.Correspondence.{correspond}
use Rattle.surface_octagon_laws.specs.QuadOctagons.{quads_and_octagons, quads_for_octagons, HasQuadsForOctagons, SolvesQuadEquations, IsAdmissibleQuadOctagon}
use Rattle.surface_octagon_laws.specs.Laws.{IsOctagonSolution, IsOfOctagonSolution, IsOneOctagonSolutionOver, IsOneOctagonSurfaceOver}
use Rattle.surface_octagon_laws.proofs.Entries.{length-quads, same_quads, standard_of, standard_is, joined, length-joined, triangle-joined, joined-entries, same_vector}
use Rattle.surface_octagon_laws.proofs.AsQuads.{entries_solve}
use Rattle.surface_octagon_laws.proofs.Clashes.{entries_decide}
use Rattle.surface_octagon_laws.proofs.CanonicalParts.{canonical_as_quads, over_solves, over_canonical, has_one_lift}

module _ (s : Skeleton) (k : IsSkeleton s) where
  abbrev n : ℕ
  n = length s.rows

  pub lifted_are_of : (xs : List ℕ) → length xs ≡ 6 * n → ((lift : List ℕ) × IsLiftOf s (quads_for_octagons n xs) lift) ↔ IsOfOctagonSolution s xs
  lifted_are_of xs w = (
    (λ l. (joined n l.0 xs, over_solves s k xs l.0 w l.1, joined-entries n l.0 xs w)),
    (λ y. let l : (lift : List ℕ) × IsLiftOf s (quads_for_octagons n (quads_and_octagons n y.0)) lift = has_one_lift s k y.0 y.1 in
        (l.0, subst (λ us. IsLiftOf s (quads_for_octagons n us) l.0) y.2 l.1)),
  )

  module _ (links : List Link) (h : HasSphereAndDiscLinks s links) (quad_rows : List EquationRow) (equations : AreEquations Quad s.rows quad_rows) where
    has_lift : (xs : List ℕ) → SolvesQuadEquations n quad_rows xs → (lift : List ℕ) × IsLiftOf s (quads_for_octagons n xs) lift
    has_lift xs solution = (lifted_are_quads s k (quads_for_octagons n xs) (length-quads n xs)).1 ((correspond s k links h quad_rows equations (quads_for_octagons n xs)).0 solution.solves)

    pub octagons_correspond : (xs : List ℕ) → SolvesQuadEquations n quad_rows xs ↔ IsOfOctagonSolution s xs
    octagons_correspond xs = (
      (λ solution. (lifted_are_of xs solution.width).0 (has_lift xs solution)),
      (λ y. subst (SolvesQuadEquations n quad_rows) y.2 (entries_solve s k quad_rows y.0 equations y.1)),
    )

    module _ (xs : List ℕ) (wide : length xs ≡ 6 * n) (lift : List ℕ) (is_lift : IsLiftOf s (quads_for_octagons n xs) lift) where
      only_one : (other : List ℕ) → IsOctagonSolution s other → IsCanonical s Octagon other → quads_and_octagons n other ≡ xs → other ≡ joined n lift xs
      only_one other solution canonical e =
          let zs : List ℕ = standard_of n other in
          let form : HasQuadsForOctagons n other (standard_of n other) = standard_is n other in
          let quads : projected n (standard_of n other) ≡ quads_for_octagons n xs = same_quads n other (standard_of n other) form ∙ ap (quads_for_octagons n) e in
          let another : IsLiftOf s (quads_for_octagons n xs) (standard_of n other) = subst (λ qs. IsLiftOf s qs (standard_of n other)) quads (canonical_as_quads s k other (standard_of n other) form solution canonical) in
          let same : standard_of n other ≡ lift = one_lift s.rows k.table s.vertices.classes s.vertices.count k.vertices (quads_for_octagons n xs) (standard_of n other) lift another is_lift in
          same_vector n other (joined n lift xs) solution.width (length-joined n lift xs)
          (λ t v lt lv. sym (form.triangles t v lt lv) ∙ ap (λ us. slice_index us (tri_column Standard t v)) same ∙ sym (triangle-joined n lift xs t v lt lv))
          (e ∙ sym (joined-entries n lift xs wide))

      one_solution_over : IsOneOctagonSolutionOver s xs (joined n lift xs)
      one_solution_over = record {
        solves = over_solves s k xs lift wide is_lift;
        is_canonical = over_canonical s k xs lift wide is_lift;
        over = joined-entries n lift xs wide;
        only = only_one;
      }

      over_admissible : IsAdmissibleQuadOctagon n xs → IsAdmissible (clash_list Octagon n) (joined n lift xs)
      over_admissible a = (entries_decide n (joined n lift xs)).1 (subst (IsAdmissibleQuadOctagon n) (sym (joined-entries n lift xs wide)) a)

      one_over : IsAdmissibleQuadOctagon n xs → IsOneOctagonSurfaceOver s xs (joined n lift xs)
      one_over a = record {
        surface = record { table = k.table; triangles = tt; solves = over_solves s k xs lift wide is_lift; admissible = over_admissible a };
        is_canonical = over_canonical s k xs lift wide is_lift;
        over = joined-entries n lift xs wide;
        only = only_one;
      }

    pub one_octagon_solution : (xs : List ℕ) → SolvesQuadEquations n quad_rows xs → (ys : List ℕ) × IsOneOctagonSolutionOver s xs ys
    one_octagon_solution xs solution = let l = has_lift xs solution in (joined n l.0 xs, one_solution_over xs solution.width l.0 l.1)

    pub one_octagon_surface : (xs : List ℕ) → SolvesQuadEquations n quad_rows xs → IsAdmissibleQuadOctagon n xs → (ys : List ℕ) × IsOneOctagonSurfaceOver s xs ys
    one_octagon_surface xs solution a = let l = has_lift xs solution in (joined n l.0 xs, one_over xs solution.width l.0 l.1 a)
