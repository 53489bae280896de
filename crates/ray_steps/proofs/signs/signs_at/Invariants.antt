use Rattle.std.proofs.Common.{take}
use Rattle.ray_steps.specs.Rays.{rays_of}
use Rattle.ray_steps.specs.Signs.{AreSigns}
use Rattle.ray_steps.proofs.signs.signs_at.Given as goal

abbrev pub invariant-loop-kept : goal.invariant-loop-kept
invariant-loop-kept l = AreSigns l.limit l.row (take l.kept-index (rays_of l.ray_list)) l.signs.items
