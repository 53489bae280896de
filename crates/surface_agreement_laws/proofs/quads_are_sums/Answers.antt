-- The quads are an admissible solution of the quad equations, and a primitive one if the surface is a canonical vertex
-- surface.
use Rattle.std.specs.Prelude.{length}
use Rattle.surface_quad_laws.specs.SolutionLaws.{quads_of}
use Rattle.surface_quad_laws.proofs.QuadRows.{quads_solve}
use Rattle.surface_quad_laws.proofs.QuadClashes.{quads_decide}
use Rattle.sum_laws.proofs.Surfaces.{surfaces_are_rays_lem}
use Rattle.sum_laws.proofs.SomeSum.{some_sum}
use Rattle.surface_agreement_laws.proofs.LinksOrLifts.{lift_of_its_quads}
use Rattle.surface_agreement_laws.proofs.OneTerm.{one_term_listed}
use Rattle.surface_agreement_laws.proofs.quads_are_sums.Goals as goal

pub returns : goal.returns
returns c = record {
  sums = λ s quad_rows quads ys k equations listed surface.
      some_sum _ quad_rows quads (quads_of s ys)
      (surfaces_are_rays_lem _ quad_rows _ quads (quads_of s ys) listed (quads_solve s.rows ys k.table surface.solves quad_rows equations) ((quads_decide (length s.rows) ys).0 surface.admissible));
  one_term = λ s quad_rows quads ys limit times terms k equations listed vertex canonical sum.
      let lift = lift_of_its_quads s k quad_rows equations ys vertex canonical in
      one_term_listed _ quad_rows _ quads listed (quads_of s ys) lift.solves lift.primitive limit times terms sum;
}
