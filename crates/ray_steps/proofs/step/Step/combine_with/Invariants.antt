-- the pairs with the negative rays so far are done
use Rattle.std.proofs.Common.{◌-◌, ◌≤◌, length}
use Rattle.ray_steps.specs.Rays.{rays_of, AreOfWidth}
use Rattle.ray_steps.proofs.PlaceLemmas.{HaveTaken}
use Rattle.ray_steps.specs.Steps.{IsSearchAt}
use Rattle.ray_steps.proofs.step.Step.combine_with.Given as goal

abbrev pub invariant-loop-m : goal.invariant-loop-m
invariant-loop-m g l = record {
  within : l.m ≤ length l.negatives.places.items;
  taken : HaveTaken l.self-inside.limit.number l.self-inside.clashes.now.pairs (rays_of l.self-inside.ray_list.items) l.self-inside.signs.items l.negatives.places.items l.i l.m (rays_of l.made.ray_list.items);
  widths : AreOfWidth l.self-inside.clashes.now.columns l.made.ray_list.items;
  search : IsSearchAt l.self l.i l.search;
}

abbrev pub decreases-loop-m : goal.decreases-loop-m
decreases-loop-m g l = length l.negatives.places.items - l.m
