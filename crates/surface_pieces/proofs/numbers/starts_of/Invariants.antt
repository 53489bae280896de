-- The sums so far.
use Rattle.std.proofs.Common.{◌≡◌, ℕ, ◌<◌, length, take}
use Rattle.std.specs.Prelude.{sum, slice_index}
use Rattle.surface_pieces.proofs.numbers.starts_of.Given as goal

abbrev pub invariant-loop-entry : goal.invariant-loop-entry
invariant-loop-entry l = record {
  size : length l.starts.items ≡ l.entry-index;
  all : l.before ≡ sum (take l.entry-index l.surface.entries.now);
  each : (c : ℕ) → c < l.entry-index → slice_index l.starts.items c ≡ sum (take c l.surface.entries.now);
}
