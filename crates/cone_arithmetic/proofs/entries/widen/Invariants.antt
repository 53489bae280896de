-- the numbers so far are written
use Rattle.std.proofs.Common.{◌≡◌, ℕ, ◌<◌, length}
use Rattle.std.specs.Prelude.{slice_index}
use Rattle.cone_arithmetic.specs.RayEntries.{numbers_of}
use Rattle.cone_arithmetic.proofs.entries.widen.Given as goal

abbrev pub invariant-loop-column : goal.invariant-loop-column
invariant-loop-column l = record {
  count : length l.wide.items ≡ length (numbers_of l.entries);
  before : (k : ℕ) → k < l.column → slice_index l.wide.items k ≡ slice_index (numbers_of l.entries) k;
}
