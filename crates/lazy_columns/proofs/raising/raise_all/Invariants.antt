use Rattle.std.proofs.Common.{◌≡◌, ◌≤◌, List, length, take, vec_len}
use Rattle.cone_arithmetic.specs.declared.numbers.TheConstants.{MAX_ENTRY}
use Rattle.cone_definitions.specs.Surfaces.{Clash}
use Rattle.ray_steps.specs.Rays.{rays_of}
use Rattle.ray_steps.specs.Signs.{IsMadeUpTo}
use Rattle.lazy_columns.specs.Raised.{IsRaisedFrom}
use Rattle.lazy_columns.proofs.raising.raise_all.Given as goal

abbrev pub invariant-loop-kept : goal.invariant-loop-kept
invariant-loop-kept l = record {
  left : l.ray_list.items ≡ take (length l.ray_list.items) l.fn.ray_list.items;
  limited : length l.ray_list.items ≤ length l.fn.ray_list.items;
  keeps : (pairs : List Clash) → IsMadeUpTo MAX_ENTRY pairs (rays_of l.fn.ray_list.items) l.signs (length l.fn.ray_list.items) 0 (rays_of l.initial.next.items) →
      IsRaisedFrom MAX_ENTRY pairs (rays_of l.fn.ray_list.items) l.signs l.column (length l.ray_list.items) (rays_of l.next.items);
}

abbrev pub decreases-loop-kept : goal.decreases-loop-kept
decreases-loop-kept l = vec_len l.ray_list
