-- If all links are spheres or discs, quad solutions and standard solutions correspond.
use Rattle.surface_vector_definitions.specs.declared.LiftFault.TheVariants.{NoLift}
use Rattle.std.proofs.Common.{◌≡◌, ℕ, ◌<◌, false, pos, List, length, subst, arith, Err}
use Rattle.std.specs.Prelude.{◌↔◌, get_or}
use Rattle.std.proofs.lemmas.List.{get_or_default}
use Rattle.cone_definitions.specs.Rows.{Row as EquationRow, IsSolution}
use Rattle.cone_definitions.specs.Surfaces.{IsAdmissible}
use Rattle.skeleton_definitions.specs.Skeleton.{Skeleton, IsSkeleton}
use Rattle.skeleton_definitions.specs.declared.Link.{Link}
use Rattle.skeleton_definitions.specs.declared.LinkKind.TheVariants.{Other}
use Rattle.surface_definitions.specs.Coordinates.{columns, clash_list}
use Rattle.surface_definitions.specs.declared.Coords.TheVariants.{Quad}
use Rattle.surface_definitions.specs.QuadEquations.{AreEquations}
use Rattle.surface_vector_definitions.specs.Lifting.{HasLiftAt, IsLiftAnswer}
use Rattle.surface_laws.specs.LiftLaws.{IsLiftOf}
use Rattle.surface_laws.proofs.Heights.{lifts_join}
use Rattle.surface_laws.proofs.LiftLemmas.{lift_solves, lift_projects, quads_admissible}
use Rattle.surface_laws.proofs.Lifts.{one_lift}
use Rattle.surface_quad_laws.specs.SolutionLaws.{IsStandardSolution, quads_of}
use Rattle.surface_quad_laws.proofs.QuadRows.{quads_solve}
use Rattle.surface_quad_lift_laws.specs.Laws.{HasLink, HasSphereAndDiscLinks, IsOneSolutionOver, IsOneSurfaceOver}
use Rattle.surface_quad_lift_laws.proofs.SpheresAndDiscs.{link_lift}

-- any link
pub any_link : Link
any_link = record { triangles = 0; edges = 0; vertices = 0; euler = pos 0; closed = false; orientable = false; kind = Other }

module _ (s : Skeleton) (k : IsSkeleton s) (links : List Link) (h : HasSphereAndDiscLinks s links) (quad_rows : List EquationRow) (equations : AreEquations Quad s.rows quad_rows) where
  abbrev n : ℕ
  n = length s.rows

  has_lift : (xs : List ℕ) → IsSolution (columns Quad n) quad_rows xs → (c : ℕ) → c < s.vertices.count → HasLiftAt s xs c
  has_lift xs solution c lc =
      let low : c < length links = let e = h.one_each in omega arith in
      let link : Link = get_or links c any_link in
      let itself : link ≡ get_or links c link = get_or_default links c any_link link low in
      let are = h.are in
      let has : HasLink s c link = record { directions = are.0; count = are.1; numbered = are.2; is_link = (are.3).reported c link low itself } in
      link_lift s c k lc link has quad_rows equations xs solution (h.kinds c any_link low)

  lifted : (xs : List ℕ) → IsSolution (columns Quad n) quad_rows xs → (ys : List ℕ) × IsLiftOf s xs ys
  lifted xs solution = lifts_join s k xs solution.width (has_lift xs solution)

  solves : (xs ys : List ℕ) → IsLiftOf s xs ys → IsStandardSolution s ys
  solves xs ys l = lift_solves s.rows k.table s.vertices.classes s.vertices.count k.vertices xs ys l

  projects : (xs ys : List ℕ) → length xs ≡ columns Quad n → IsLiftOf s xs ys → quads_of s ys ≡ xs
  projects xs ys w l = lift_projects s.rows k.table s.vertices.classes s.vertices.count k.vertices xs ys w l

  pub correspond : (xs : List ℕ) → IsSolution (columns Quad n) quad_rows xs ↔ ((ys : List ℕ) × IsStandardSolution s ys × (quads_of s ys ≡ xs))
  correspond xs = (
    (λ solution. let l = lifted xs solution in (l.0, solves xs l.0 l.1, projects xs l.0 solution.width l.1)),
    (λ y. subst (λ ws. IsSolution (columns Quad n) quad_rows ws) y.2 (quads_solve s.rows y.0 k.table y.1 quad_rows equations)),
  )

  pub one_solution : (xs : List ℕ) → IsSolution (columns Quad n) quad_rows xs → (lift : List ℕ) × IsOneSolutionOver s xs lift
  one_solution xs solution =
      let l = lifted xs solution in (
        l.0,
        record {
          is_lift = l.1;
          solves = solves xs l.0 l.1;
          over = projects xs l.0 solution.width l.1;
          only = λ other m. one_lift s.rows k.table s.vertices.classes s.vertices.count k.vertices xs other l.0 m l.1;
        },
      )

  pub one_surface : (xs : List ℕ) → IsSolution (columns Quad n) quad_rows xs → IsAdmissible (clash_list Quad n) xs → (lift : List ℕ) × IsOneSurfaceOver s xs lift
  one_surface xs solution admissible =
      let o = one_solution xs solution in
      let l = o.1 in (
        o.0,
        record {
          is_lift = l.is_lift;
          surface = record { table = k.table; triangles = tt; solves = l.solves; admissible = quads_admissible n xs o.0 l.over admissible };
          over = l.over;
          only = l.only;
        },
      )

  pub never_without : (max : ℕ) (xs : List ℕ) (c : ℕ) → IsSolution (columns Quad n) quad_rows xs → IsLiftAnswer max s xs (Err (NoLift c)) → ⊥
  never_without max xs c solution answer = let w = answer.1 in w.none (has_lift xs solution c w.in_range)
