-- the indices of the negative rays so far are listed
use Rattle.ray_steps.specs.Signs.{AreNegativePlaces}
use Rattle.ray_steps.proofs.negatives.negative_places.Given as goal

abbrev pub invariant-loop-place : goal.invariant-loop-place
invariant-loop-place l = AreNegativePlaces l.signs l.place l.places.items
