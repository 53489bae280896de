use Rattle.std.proofs.Common.{◌≡◌, ℕ, ◌≤◌, List, length, take, vec_len}
use Rattle.cone_definitions.specs.Surfaces.{Clash}
use Rattle.ray_steps.specs.Rays.{rays_of, AreOfWidth}
use Rattle.ray_steps.specs.Signs.{IsMadeUpTo, IsNextFrom}
use Rattle.ray_steps.proofs.zeros.keep_zeros.Given as goal

abbrev pub invariant-loop-kept : goal.invariant-loop-kept
invariant-loop-kept l = record {
  left : l.ray_list.items ≡ take (length l.ray_list.items) l.fn.ray_list.items;
  limited : length l.ray_list.items ≤ length l.fn.ray_list.items;
  keeps : (limit : ℕ) (pairs : List Clash) → IsMadeUpTo limit pairs (rays_of l.fn.ray_list.items) l.signs (length l.fn.ray_list.items) 0 (rays_of l.initial.next.items) →
      IsNextFrom limit pairs (rays_of l.fn.ray_list.items) l.signs (length l.ray_list.items) (rays_of l.next.items);
  widths : (columns : ℕ) → AreOfWidth columns l.fn.ray_list.items → AreOfWidth columns l.initial.next.items → AreOfWidth columns l.next.items;
}

abbrev pub decreases-loop-kept : goal.decreases-loop-kept
decreases-loop-kept l = vec_len l.ray_list
