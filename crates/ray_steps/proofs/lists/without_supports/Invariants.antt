-- the rays so far are converted, and the others are left
use Rattle.std.proofs.Common.{◌≡◌, ◌++◌, length}
use Rattle.std.specs.Vec.Iter.{into_iter_items, into_iter_len}
use Rattle.ray_steps.specs.Rays.{rays_of}
use Rattle.ray_steps.proofs.lists.without_supports.Given as goal

abbrev pub invariant-loop-kept : goal.invariant-loop-kept
invariant-loop-kept l = record {
  made : l.rays.items ≡ rays_of l.yielded;
  in_order : l.yielded ++ into_iter_items l.kept-iterator ≡ into_iter_items l.initial.kept-iterator;
  count : into_iter_len l.kept-iterator ≡ length (into_iter_items l.kept-iterator);
}
