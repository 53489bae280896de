use Rattle.std.proofs.Common.{◌≡◌, ◌<◌, ℕ, length, slice_index, take}
use Rattle.table_definitions.specs.Lists.{times_in}
use Rattle.skeleton.proofs.degrees.degrees_of.Given as goal

abbrev pub invariant-loop-class : goal.invariant-loop-class
invariant-loop-class l = record {
  one_each : length l.degrees.items ≡ length l.numbering.firsts.items;
  counted : (c : ℕ) → c < length l.numbering.firsts.items → slice_index l.degrees.items c ≡ times_in (take l.class-index l.class-items) c;
}
