-- the rays so far are converted, and the others are left
use Rattle.std.proofs.Common.{◌≡◌, ◌++◌, length}
use Rattle.std.specs.Vec.Iter.{into_iter_items, into_iter_len}
use Rattle.ray_steps.proofs.lists.wide_rays.Given as goal

abbrev pub invariant-loop-packed : goal.invariant-loop-packed
invariant-loop-packed l = record {
  made : l.rays.items ≡ l.yielded;
  in_order : l.yielded ++ into_iter_items l.packed-iterator ≡ into_iter_items l.initial.packed-iterator;
  count : into_iter_len l.packed-iterator ≡ length (into_iter_items l.packed-iterator);
}
