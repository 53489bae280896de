use Rattle.std.proofs.Common.{◌≡◌, ℕ, ◌+◌, ◌<◌, length, get_or, Vec}
use Rattle.std.specs.declared.alloc.Global.{Global}
use Rattle.surface_definitions.specs.Coordinates.{triangles_each}
use Rattle.quad_condition.specs.Marks.{AreMarks}
use Rattle.quad_condition.proofs.masks.distance_masks.Given as goal

abbrev pub invariant-loop-distance : goal.invariant-loop-distance
invariant-loop-distance l = record {
  so_far : length l.near.items + 1 ≡ l.distance;
  each : (k : ℕ) (d : Vec ℕ Global) → k < length l.near.items → AreMarks l.space.coords l.space.tets (triangles_each l.space.coords) (k + 1) (get_or l.near.items k d).items;
}
