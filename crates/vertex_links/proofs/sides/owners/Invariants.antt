use Rattle.std.proofs.Common.{◌≡◌, ◌<◌, ◌/◌, ℕ, length, slice_index}
use Rattle.vertex_links.proofs.sides.owners.Given as goal

abbrev pub invariant-loop-thing : goal.invariant-loop-thing
invariant-loop-thing l = record {
  size : length l.owners.items ≡ l.thing;
  owners : (j : ℕ) → j < l.thing → slice_index l.owners.items j ≡ slice_index l.skeleton.vertices.classes (j / l.each);
}
