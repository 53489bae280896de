-- The quad vectors that have lifts.
use Rattle.std.proofs.Common.{◌≡◌, ℕ, List, length, subst}
use Rattle.std.specs.Prelude.{◌↔◌}
use Rattle.cone_definitions.specs.Rows.{Row as EquationRow, IsSolution}
use Rattle.skeleton_definitions.specs.Skeleton.{Skeleton, IsSkeleton}
use Rattle.surface_definitions.specs.Coordinates.{columns}
use Rattle.surface_definitions.specs.declared.Coords.TheVariants.{Quad}
use Rattle.surface_definitions.specs.QuadEquations.{AreEquations}
use Rattle.surface_laws.specs.LiftLaws.{IsLiftOf}
use Rattle.surface_laws.proofs.LiftLemmas.{lift_solves, lift_projects}
use Rattle.surface_quad_laws.specs.SolutionLaws.{IsStandardSolution, quads_of, HasOneLiftWithLinks}
use Rattle.surface_quad_laws.proofs.LiftsAndLinks.{one_lift_with_links}
use Rattle.surface_quad_laws.proofs.QuadRows.{quads_solve}

module _ (s : Skeleton) (k : IsSkeleton s) where
  pub lifted_are_quads : (xs : List ℕ) → length xs ≡ columns Quad (length s.rows) → ((lift : List ℕ) × IsLiftOf s xs lift) ↔ ((ys : List ℕ) × IsStandardSolution s ys × (quads_of s ys ≡ xs))
  lifted_are_quads xs w = (
    (λ l. (l.0, lift_solves s.rows k.table s.vertices.classes s.vertices.count k.vertices xs l.0 l.1, lift_projects s.rows k.table s.vertices.classes s.vertices.count k.vertices xs l.0 w l.1)),
    (λ y. let h : HasOneLiftWithLinks s y.0 = one_lift_with_links s k y.0 y.1 in (h.lift, subst (λ ws. IsLiftOf s ws h.lift) y.2 (h.are).is_lift)),
  )

  pub lifted_solve : (quad_rows : List EquationRow) (xs lift : List ℕ) → AreEquations Quad s.rows quad_rows → length xs ≡ columns Quad (length s.rows) → IsLiftOf s xs lift
      → IsSolution (columns Quad (length s.rows)) quad_rows xs
  lifted_solve quad_rows xs lift are w l =
      subst (λ ws. IsSolution (columns Quad (length s.rows)) quad_rows ws) (lift_projects s.rows k.table s.vertices.classes s.vertices.count k.vertices xs lift w l)
      (quads_solve s.rows lift k.table (lift_solves s.rows k.table s.vertices.classes s.vertices.count k.vertices xs lift l) quad_rows are)
