-- the pairs with the indices so far are done
use Rattle.ray_steps.specs.Rays.{rays_of, AreOfWidth}
use Rattle.ray_steps.proofs.PlaceLemmas.{HaveTaken}
use Rattle.ray_steps.proofs.step.Step.combine_found.Given as goal

abbrev pub invariant-loop-place : goal.invariant-loop-place
invariant-loop-place g l = record {
  taken : HaveTaken l.self.limit l.self.pairs l.self.rays l.self.signs l.places l.i l.place-index (rays_of l.made.items);
  widths : AreOfWidth l.self.columns l.made.items;
}
