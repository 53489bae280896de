-- no index before the found one is that of a third ray inside the union
use Rattle.std.proofs.Common.{ℕ, ◌-◌, ◌<◌, ◌≤◌, [], length, slice_index_or}
use Rattle.support_bits.specs.Columns.{IsInsideUnionOf}
use Rattle.ray_steps.specs.CompatibleLists.{IsThirdInside}
use Rattle.ray_steps.proofs.thirds.third_inside.Given as goal

abbrev pub invariant-loop-m : goal.invariant-loop-m
invariant-loop-m l = record {
  most : l.m ≤ length l.pair.compatible_list.now.places.items;
  inside : l.m < length l.pair.compatible_list.now.places.items → IsInsideUnionOf (slice_index_or l.pair.compatible_list.now.table.supports l.m []) l.pair.a.now l.pair.b.now;
  earlier : (k : ℕ) → k < l.m → ¬ IsThirdInside l.pair.compatible_list.now.places.items l.pair.compatible_list.now.table.supports l.pair.i l.pair.j l.pair.a.now l.pair.b.now k;
}

abbrev pub decreases-loop-m : goal.decreases-loop-m
decreases-loop-m l = length l.pair.compatible_list.now.places.items - l.m
