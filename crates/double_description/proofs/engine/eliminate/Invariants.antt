use Rattle.std.proofs.Common.{◌++◌, length, vec_len}
use Rattle.std.specs.List.{range_with_len}
use Rattle.std.specs.List.Sorted.{IsPermutation}
use Rattle.cone_definitions.specs.Surfaces.{IsSurfaceList}
use Rattle.cone_definitions.specs.Elimination.{in_order}
use Rattle.ray_steps.specs.Rays.{rays_of, AreOfWidth}
use Rattle.double_description.specs.Turns.{AreTaken}
use Rattle.cone_definitions.specs.Orders.{AreLeft}
use Rattle.cone_definitions.specs.Listings.{AreWithin}
use Rattle.double_description.proofs.engine.eliminate.Given as goal

abbrev pub invariant-loop-left : goal.invariant-loop-left
invariant-loop-left g l = record {
  rows_left : AreLeft (length l.system.rows) l.order.items l.left.items;
  all : IsPermutation (range_with_len 0 (length l.system.rows)) (l.order.items ++ l.left.items);
  taken : AreTaken l.picker.order (goal.G-post g l.picker.choose) l.system l.order.items;
  within : AreWithin l.limit l.system l.clashes.pairs l.order.items;
  surfaces : IsSurfaceList l.system.columns (in_order l.system.rows l.order.items) l.clashes.pairs (rays_of l.rays.items);
  widths : AreOfWidth l.clashes.columns l.rays.items;
}

abbrev pub decreases-loop-left : goal.decreases-loop-left
decreases-loop-left g l = vec_len l.left
