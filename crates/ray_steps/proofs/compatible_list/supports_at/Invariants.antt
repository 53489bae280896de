-- the supports of the rays with the indices so far
use Rattle.std.proofs.Common.{take}
use Rattle.ray_steps.specs.Rays.{rays_of}
use Rattle.ray_steps.specs.CompatibleLists.{HasSupportsOf}
use Rattle.ray_steps.proofs.compatible_list.supports_at.Given as goal

abbrev pub invariant-loop-place : goal.invariant-loop-place
invariant-loop-place l = HasSupportsOf (rays_of l.rays.items.now) l.rays.columns (take l.place-index l.places) l.table
