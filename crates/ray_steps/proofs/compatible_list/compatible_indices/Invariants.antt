-- the indices so far are listed
use Rattle.ray_steps.specs.Rays.{rays_of}
use Rattle.ray_steps.specs.CompatibleLists.{AreCompatible}
use Rattle.ray_steps.proofs.compatible_list.compatible_indices.Given as goal

abbrev pub invariant-loop-k : goal.invariant-loop-k
invariant-loop-k l = AreCompatible (rays_of l.ray_list) l.columns l.k l.places.items
