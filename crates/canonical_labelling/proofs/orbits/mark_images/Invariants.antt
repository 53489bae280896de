use Rattle.std.proofs.Common.{◌≡◌, ◌≤◌, length}
use Rattle.canonical_labelling.specs.Marks.{MarksFollow}
use Rattle.canonical_labelling.proofs.orbits.mark_images.Given as goal

-- the marks so far follow from those at the beginning
abbrev pub invariant-loop-j : goal.invariant-loop-j
invariant-loop-j l = record {
  marked : MarksFollow l.fn.orbits.automorphisms.items l.fn.orbits.marked.items l.orbits.marked.items;
  size : length l.orbits.marked.items ≡ length l.fn.orbits.marked.items;
  automorphisms : l.orbits.automorphisms.items ≡ l.fn.orbits.automorphisms.items;
  grows : length l.fn.orbits.numbers.items ≤ length l.orbits.numbers.items;
}
