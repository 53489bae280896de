-- the supports of the rays so far
use Rattle.std.proofs.Common.{take}
use Rattle.ray_steps.specs.Rays.{rays_of}
use Rattle.ray_steps.specs.CompatibleLists.{HasAllSupports}
use Rattle.ray_steps.proofs.compatible_list.all_supports.Given as goal

abbrev pub invariant-loop-kept : goal.invariant-loop-kept
invariant-loop-kept l = HasAllSupports (take l.kept-index (rays_of l.rays.items.now)) l.rays.columns l.table
